-- A row has the fields of its layout, in order; no layout has more than `places`.
use Rattle.std.proofs.Common.{◌≡◌, ℕ, ◌<◌, ◌≤◌, Bool, true, false, cond, ◌&&◌, List, [], ◌∷◌, length, refl, sym, zero, suc, arith, Option, Some, None, slice_get, Bor}
use Rattle.std.specs.Option.{MatchOption, option_copied}
use Rattle.std.specs.List.{HoldsAt}
use Rattle.std.proofs.lemmas.Option.{slice_get_past, slice_get_read}
use lib.Dec.{leb, eqb}
use borrow.Author.Tests.{leb-true}
use Rattle.message_layout.specs.Table.{Entered, Row, table, entry_at, entries_in, entries_of, item_entries, item_fields, entries_from}
use Rattle.message_layout.specs.Rows.{row_of, places}
use Rattle.message_layout.specs.declared.Element.{Element}
use Rattle.message_layout.specs.declared.Element.TheVariants.{Version, ServiceName, QueueName, Domain, Service, Queue, Message}
use Rattle.message_layout.specs.declared.Source.{Source}
use Rattle.message_layout.specs.declared.Source.TheVariants as source
use Rattle.message_layout.specs.declared.Field.{Field}

-- what `get` finds in a row
pub got : (xs : List Field) (k : ℕ) (r : Option (Bor Field)) → MatchOption r (length xs ≤ k) (λ x. (k < length xs) × HoldsAt (λ y. x.now ≡ y) xs k) → option_copied r ≡ slice_get xs k
got xs k None h = sym (slice_get_past xs k h)
got xs k (Some x) h = sym (slice_get_read xs (length xs) k x.now refl h.0 (h.1 x.now))

-- field k of the row is field k of the layout
pub row_entry : (es : List Entered) (k : ℕ) → slice_get (row_of es) k ≡ entry_at es k
row_entry [] k = refl
row_entry (e ∷ es) zero = refl
row_entry (e ∷ es) (suc k) = row_entry es k

-- ---- every layout has its places

abbrev short-rows : List Row → Bool
short-rows [] = true
short-rows (r ∷ rs) = leb (length r.entries) places && short-rows rs

rows_short : (rs : List Row) → short-rows rs ≡ true → (t : ℕ) → length (entries_in rs t) ≤ places
rows_short [] h t = omega arith
rows_short (r ∷ rs) h t = go (leb (length r.entries) places) refl h (eqb t r.message) (λ k. rows_short rs k t)
  where
    go : (a : Bool) → leb (length r.entries) places ≡ a → (a && short-rows rs) ≡ true → (c : Bool) → (short-rows rs ≡ true → length (entries_in rs t) ≤ places)
        → length (cond c r.entries (entries_in rs t)) ≤ places
    go true e k true rest = leb-true (length r.entries) places e
    go true e k false rest = rest k
    go false e k c rest = cc

items_short : (e : Element) → length (item_fields (item_entries e)) ≤ places
items_short Version = omega arith
items_short ServiceName = omega arith
items_short QueueName = omega arith
items_short Domain = omega arith
items_short Service = omega arith
items_short Queue = omega arith
items_short Message = omega arith

pub entries_short : (src : Source) → length (entries_from src) ≤ places
unfolding entries_from entries_of
entries_short (source.Message t) = rows_short table refl t
entries_short (source.Element e) = items_short e
