-- A step from a position in the payload s of a message: what stands there, and the position behind it. Every position has one, also one that no walk
-- comes to.
use Rattle.std.specs.Prelude.{ℕ, zero, suc, ◌+◌, ◌-◌, Bool, true, false, cond, List, [], ◌∷◌, Option, None, Some, Result, Ok, Err, drop, eqb, leb}
use Rattle.wire.specs.declared.Item.TheVariants.{Raw, Num, Str}
use Rattle.message_layout.specs.Table.{EnteredItem, item_entries, Entered, entries_of, entries_from, entry_at}
use Rattle.message_layout.specs.declared.Element.{Element}
use Rattle.message_layout.specs.declared.Field.{Field}
use Rattle.message_layout.specs.declared.Kind.{Kind}
use Rattle.message_layout.specs.declared.Kind.TheVariants as kind
use Rattle.message_layout.specs.declared.Source.{Source}
use Rattle.message_layout.specs.declared.Source.TheVariants as source
use Rattle.message_walk.specs.declared.Form.{Form}
use Rattle.message_walk.specs.declared.Form.TheVariants.{Bytes, Number}
use Rattle.message_walk.specs.declared.Piece.{Piece}
use Rattle.message_walk.specs.declared.Reason.{Reason}
use Rattle.message_walk.specs.declared.Position.{Position}
use Rattle.message_walk.specs.declared.Met.{Met}
use Rattle.message_walk.specs.Walk.{Walk, end, size_of, count, flag, gtrid_length, bqual_length, gtrid_of, Mark, mark, index_of, piece_of, item_from, items_from, elements_from, field_from, fields_from}
use Rattle.message_walk.specs.Reasons.{value_at, fault_of, left_over}

-- ---- what stands at a position

-- the layout that it is in
abbrev pub source_in : ℕ → Option Element → Source
source_in t None = source.Message t
source_in t (Some e) = source.Element e

-- the number of the element that it is in
abbrev pub index_in : Option Element → ℕ → ℕ → Option ℕ
index_in None c left = None
index_in (Some e) c left = index_of c left

-- what piece j of a field is, where the pieces before it told t
abbrev pub form_of : Kind → ℕ → ℕ → Form
form_of (kind.One (Raw n)) j t = Bytes n
form_of (kind.One (Num w l)) j t = Number w l
form_of (kind.One Str) zero t = count
form_of (kind.One Str) (suc j) t = Bytes t
form_of (kind.List e) j t = count
form_of (kind.Optional e) j t = flag
form_of kind.Xid zero t = count
form_of kind.Xid (suc zero) t = gtrid_length
form_of kind.Xid (suc (suc zero)) t = bqual_length
form_of kind.Xid (suc (suc (suc j))) t = Bytes t

abbrev pub mark_of : Position → Mark
mark_of x = mark (source_in x.kind x.within) x.field (index_in x.within x.count x.left)

abbrev pub piece_at : Position → Kind → Piece
piece_at x k = piece_of (mark_of x) x.piece (form_of k x.piece x.told) x.place

-- ---- the position behind it, at q

-- the first field of a message of type t
abbrev pub start : ℕ → Position
start t = record { kind = t; within = None; field = 0; piece = 0; told = 0; place = 0; count = 0; left = 0; after = 0 }

-- piece j of the same field, which is told t
abbrev pub to_piece : Position → ℕ → ℕ → ℕ → Position
to_piece x j t q =
    record { kind = x.kind; within = x.within; field = x.field; piece = j; told = t; place = q; count = x.count; left = x.left; after = x.after }

-- field k of the same layout
abbrev pub to_field : Position → ℕ → ℕ → Position
to_field x k q =
    record { kind = x.kind; within = x.within; field = k; piece = 0; told = 0; place = q; count = x.count; left = x.left; after = x.after }

-- the next element; behind the last one, the next field of the message
abbrev pub to_element : Position → ℕ → Position
to_element x q =
    cond (leb x.left 1)
    (record { kind = x.kind; within = None; field = x.after; piece = 0; told = 0; place = q; count = 0; left = 0; after = 0 })
    (record { kind = x.kind; within = x.within; field = 0; piece = 0; told = 0; place = q; count = x.count; left = x.left - 1; after = x.after })

-- behind a field: the next one of the layout, or of the next element
abbrev pub is_end : Option Field → Bool
is_end None = true
is_end (Some f) = false

abbrev pub onward : Option Element → Position → ℕ → Position
onward None x q = to_field x (x.field + 1) q
onward (Some e) x q = cond (is_end (entry_at (entries_from (source.Element e)) (x.field + 1))) (to_element x q) (to_field x (x.field + 1) q)

-- behind a count or a flag of n: the first of n elements; c is 0 where they have no numbers
abbrev pub inward : Element → ℕ → ℕ → Position → ℕ → Position
inward e c n x q =
    cond (eqb n 0) (onward x.within x q)
    (record { kind = x.kind; within = Some e; field = 0; piece = 0; told = 0; place = q; count = c; left = n; after = x.field + 1 })

-- behind piece j of a field, of which the value is v
abbrev pub behind : Kind → ℕ → ℕ → Position → ℕ → Position
behind (kind.One (Raw n)) j v x q = onward x.within x q
behind (kind.One (Num w l)) j v x q = onward x.within x q
behind (kind.One Str) zero v x q = to_piece x 1 v q
behind (kind.One Str) (suc j) v x q = onward x.within x q
behind (kind.List e) j v x q = inward e v v x q
behind (kind.Optional e) j v x q = inward e 0 v x q
behind kind.Xid zero v x q = cond (eqb v 0) (onward x.within x q) (to_piece x 1 0 q)
behind kind.Xid (suc zero) v x q = to_piece x 2 v q
behind kind.Xid (suc (suc zero)) v x q = to_piece x 3 (gtrid_of x.told + v) q
behind kind.Xid (suc (suc (suc j))) v x q = onward x.within x q

abbrev pub next_of : List ℕ → Position → Kind → Position
next_of s x k =
    let f : Form = form_of k x.piece x.told in
    behind k x.piece (value_at f s x.place) x (x.place + size_of f)

-- ---- a step: the field and the position behind it; where it is at fault, the reason; behind the last field, the bytes left over, if any

-- what a step comes to: a field and the position behind it, or the end, or a reason
abbrev pub Step : Type 0
Step = Result (Option Met) Reason

abbrev pub field : Piece → Position → Step
field x next = Ok (Some (record { piece = x; next = next }))

-- a walk that is done: at its end, or by a fault
abbrev pub done : Option Reason → Step
done None = Ok None
done (Some r) = Err r

abbrev pub field_step : Option Reason → Piece → Position → Step
field_step None x next = field x next
field_step (Some r) x next = done (Some r)

unfoldable pub step_in : List ℕ → Position → Option Field → Step
step_in s x None = done (left_over s x.place)
step_in s x (Some f) = field_step (fault_of s (piece_at x f.kind)) (piece_at x f.kind) (next_of s x f.kind)

abbrev pub step_at : List ℕ → Position → Step
step_at s x = step_in s x (entry_at (entries_from (source_in x.kind x.within)) x.field)

-- ---- what is left of the walk from a position on

module _ (s : List ℕ) where
  -- from field k of a message on
  abbrev pub rest_of : ℕ → ℕ → ℕ → Walk
  rest_of t k p = fields_from s t k (drop k (entries_of t)) p

  abbrev pub from_field : Position → List Entered → Walk
  from_field x [] = end x.place
  from_field x (e ∷ es) =
      field_from s (mark_of x) e.kind x.piece x.told x.place (λ q. fields_from s x.kind (x.field + 1) es q)

  abbrev pub from_item : Position → Element → List EnteredItem → Walk
  from_item x e [] = end x.place
  from_item x e (i ∷ is) =
      item_from s (mark_of x) i.item x.piece x.told x.place
      (λ q. items_from s e (index_of x.count x.left) (x.field + 1) is q
      (λ r. elements_from s e x.count (x.left - 1) r (λ u. rest_of x.kind x.after u)))

  abbrev pub from_within : Option Element → Position → Walk
  from_within None x = from_field x (drop x.field (entries_of x.kind))
  from_within (Some e) x = from_item x e (drop x.field (item_entries e))

  unfoldable pub walk_from : Position → Walk
  walk_from x = from_within x.within x
