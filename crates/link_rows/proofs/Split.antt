-- The row rules are the rules of each row, and that the session numbers differ.
use mathlib.Core.Path.{◌≡◌, refl, sym, ap, ◌∙◌}
use mathlib.Core.Bool.{Bool, true, false, ◌&&◌, and_comm, and_assoc}
use mathlib.Core.List.{List, [], ◌∷◌, ◌++◌, map}
use lib.ListN.{take, drop}
use Rattle.link_rows.specs.Rules.{all_hold, every, distinct, session, rules, Rules, row_rules, row_keeps}
use Rattle.link_rows.specs.declared.Endpoint.{Endpoint}

and_swap : (a b c d : Bool) → (a && b && (c && d)) ≡ (a && c && (b && d))
and_swap true b c d = sym (and_assoc b c d) ∙ ap (λ (x : Bool). x && d) (and_comm b c) ∙ and_assoc c b d
and_swap false b c d = refl

module _ {A : Type 0} where
  every_and : (f g : A → Bool) (l : List A) → every (λ x. f x && g x) l ≡ (every f l && every g l)
  unfolding every
  every_and f g [] = refl
  every_and f g (x ∷ l) = rw (every_and f g l) (and_swap (f x) (g x) (every f l) (every g l))

  every_true : (l : List A) → every (λ x. true) l ≡ true
  unfolding every
  every_true [] = refl
  every_true (x ∷ l) = every_true l

  -- each test of every element, and every element by all the tests
  pub every_all : (fs : List (A → Bool)) (l : List A) → all_hold (map (λ f. every f l) fs) ≡ every (λ x. all_hold (map (λ f. f x) fs)) l
  every_all [] l = sym (every_true l)
  every_all (f ∷ fs) l = ap (λ (b : Bool). every f l && b) (every_all fs l) ∙ sym (every_and f (λ x. all_hold (map (λ g. g x) fs)) l)

-- one test among others comes to the end
all_move : (ts bs : List Bool) (d : Bool) → all_hold (ts ++ (d ∷ bs)) ≡ (all_hold (ts ++ bs) && d)
all_move [] bs d = and_comm d (all_hold bs)
all_move (a ∷ ts) bs d = ap (λ (b : Bool). a && b) (all_move ts bs d) ∙ sym (and_assoc a (all_hold (ts ++ bs)) d)

pub rules_split : (e : Endpoint) → Rules e ≡ (every (row_keeps e.last e.down) e.rows && distinct (map session e.rows))
unfolding Rules rules row_keeps
rules_split e =
    let d : Bool = distinct (map session e.rows) in
    let l : List Bool = map (λ f. every f e.rows) (row_rules e.last e.down) in
    all_move (take 7 l) (drop 7 l) d ∙ ap (λ (b : Bool). b && d) (every_all (row_rules e.last e.down) e.rows)
