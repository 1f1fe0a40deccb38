-- What follows a place in bytes, which may be past their end.
use Rattle.std.proofs.Common.{◌≡◌, ℕ, ◌-◌, ◌≤◌, List, length, take, drop, sym, ap, ◌∙◌, arith}
use Rattle.std.proofs.lemmas.List.{drop_all, length-drop}
use lib.Seq.{take_all}
use native.Mathlib.Decide.{dec_le}
use Rattle.message_fields.specs.Fields.{within}

pub drop-within : (s : List ℕ) (p : ℕ) → drop (within s p) s ≡ drop p s
drop-within s p = go (dec_le p (length s))
  where
    go : Dec (p ≤ length s) → drop (within s p) s ≡ drop p s
    go (yes h) = let z : within s p ≡ p = omega arith in ap (λ (q : ℕ). drop q s) z
    go (no h) = drop_all (within s p) s (omega arith) ∙ sym (drop_all p s (omega arith))

-- `&s[q..]`, where q is that place, or the end
pub after_within : (s : List ℕ) (p q : ℕ) → q ≡ within s p → take (length s - q) (drop q s) ≡ drop p s
after_within s p q e = take_all (length s - q) (drop q s) (omega (arith, length-drop q s)) ∙ ap (λ (k : ℕ). drop k s) e ∙ drop-within s p
