-- What was read of an input through a limit, cut at the limit once more.
use Rattle.std.proofs.Common.{arith, ◌≡◌, ℕ, List, [], ◌++◌, take, IfSome, Option, None, Some}
use Rattle.std.specs.Option.{option_map}
use Rattle.std.proofs.lemmas.List.{length-take, take_all}

take_twice : (n : ℕ) (xs : List ℕ) → take n (take n xs) ≡ take n xs
take_twice n xs = grind (arith, length-take, take_all)

cut-known : (known : Option (List ℕ)) (n limit : ℕ) (before read cut : List ℕ)
    → limit ≡ n
    → before ≡ []
    → IfSome (option_map (take limit) known) (λ xs. read ≡ before ++ xs)
    → cut ≡ take n read
    → IfSome known (λ xs. cut ≡ take n xs)
cut-known None n limit before read cut of-limit of-before of-known of-cut = search
cut-known (Some xs) n limit before read cut of-limit of-before of-known of-cut = grind (arith, take_twice)

-- `remaining` gives what a reader still has, and the limited reader has `inner` inside.
pub cut-limited : {R : Type 0} (remaining : R → Option (List ℕ)) {input inner : R} {n limit : ℕ} {before : List ℕ} (read : List ℕ) {cut : List ℕ}
    → inner ≡ input
    → limit ≡ n
    → before ≡ []
    → IfSome (option_map (take limit) (remaining inner)) (λ xs. read ≡ before ++ xs)
    → cut ≡ take n read
    → IfSome (remaining input) (λ xs. cut ≡ take n xs)
cut-limited remaining read of-inner of-limit of-before of-known of-cut =
    rw (← of-inner) (cut-known (remaining _) _ _ _ read _ of-limit of-before of-known of-cut)
