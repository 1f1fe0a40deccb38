-- What a record sees matters only on an identifier that is served.
use mathlib.Core.Path.{◌≡◌, refl, ap}
use mathlib.Core.Bool.{Bool, true, false}
use Prim.Native.Nat.{ℕ}
use Rattle.link_rows.specs.Rows.{is_served}
use Rattle.link_rows.specs.Replies.{refuse, Reply}
use Rattle.link_rows.specs.declared.Record.{Record}
use Rattle.link_record_replies.specs.Records.{head_tests, row_tests, last_tests, seen_reply}
use Rattle.link_record_replies.specs.declared.Seen.{Seen}

-- no row is asked for on an identifier that has none
unserved : (h : Record) (a b : Reply) → is_served h.id ≡ false → head_tests h a ≡ head_tests h b
unfolding head_tests refuse
unserved h a b f = rw f refl

pub any_row_serves : (s t : Seen) (h : Record) (n : ℕ) → (is_served h.id ≡ true → s ≡ t) → seen_reply s h n ≡ seen_reply t h n
unfolding seen_reply
any_row_serves s t h n same = go (is_served h.id) refl
  where
    go : (b : Bool) → is_served h.id ≡ b → seen_reply s h n ≡ seen_reply t h n
    go true q = ap (λ (x : Seen). seen_reply x h n) (same q)
    go false f = unserved h (row_tests s h (last_tests s h n)) (row_tests t h (last_tests t h n)) f
