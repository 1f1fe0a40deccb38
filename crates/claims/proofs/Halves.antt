-- T-03's claim: of what is read, from what is valid; of what is written, from what is allowed.
use Prim.Native.Nat.{ℕ, ◌≤◌}
use native.Mathlib.Omega.{arith}
use mathlib.Core.Path.{◌≡◌, refl, sym, ◌∙◌}
use mathlib.Core.Bool.{Bool, true, false, cond}
use mathlib.Core.List.{List, [], ◌∷◌}
use lib.ListN.{length}
use lib.Dec.{eqb, leb}
use borrow.Author.Tests.{leb-true}
use Rattle.wire.specs.Numbers.{Bytes}
use Rattle.wire.specs.Layout as layouts
use Rattle.wire.specs.Layout.{Field, one, many, Fields, gtrid_most, bqual_most}
use Rattle.wire.specs.Values.{Xid, null, branch, FieldVal, FieldVals, FieldValid, FieldsValid}
use Rattle.wire.specs.declared.Item.TheVariants.{Raw, Num, Str}
use Rattle.wire.specs.declared.values.XidNumber.{XidNumber}
use Rattle.wire.specs.declared.values.XidNumber.TheVariants.{FormatId, GtridLength, BqualLength}
use Rattle.wire.proofs.Parts.{both}
use Rattle.message_layout.specs.Roles.{Xid as XidRole}
use Rattle.message_layout.specs.Table.{field_of, Entered, entries_of, fields_of, layout}
use Rattle.message_layout.specs.Message.{Message, payload, message_in}
use Rattle.message_layout.specs.declared.Kind.{Kind}
use Rattle.message_layout.specs.declared.Kind.TheVariants as kind
use Rattle.message_fields.specs.Contents.{Value, Content, lacking, bytes, numeral, xid, list, content_xid}
use Rattle.message_fields.specs.Fields.{xid_answer}
use Rattle.message_agree.specs.Contents.{valued, content_of, content_in}
use Rattle.message_agree.proofs.Agree.{xid_agrees_lem}
use Rattle.std.specs.Prelude.{Ok, Err}
use Rattle.wire.specs.declared.Refused.{Refused}
use Rattle.message_read.specs.Reading.{Reading, reading}
use Rattle.message_read.proofs.Exact.{accepted_valid}
use Rattle.message_lent.specs.Lent.{Lent, Lents, xid_allowed, field_allowed, all_allowed}
use Rattle.message_lent.specs.Requests.{Request, message, rollback_request, rollback_reply}
use Rattle.message_verdict.specs.Writing.{agreeing, allowing, writing}
use Rattle.message_verdict.proofs.Verdict.{success}
use Rattle.claims.specs.Claims.{WithinLimit, Halves}

-- ---- reading

-- an xid that a message holds is valid
abbrev Sound : Content → Type 0
Sound lacking = Unit
Sound (bytes b) = Unit
Sound (numeral n) = Unit
Sound (xid x) = FieldValid layouts.xid x
Sound (list e vs) = Unit

valued_sound : (k : Kind) (v : FieldVal (field_of k)) → FieldValid (field_of k) v → Sound (valued k v)
valued_sound (kind.One (Raw n)) v h = tt
valued_sound (kind.One (Num w l)) v h = tt
valued_sound (kind.One Str) v h = tt
valued_sound (kind.List e) v h = tt
valued_sound (kind.Optional e) v h = tt
valued_sound kind.Xid v h = h

either : (b : Bool) (x y : Content) → Sound x → Sound y → Sound (cond b x y)
either true x y h k = h
either false x y h k = k

content_sound : (r : ℕ) (es : List Entered) (v : FieldVals (fields_of es)) → FieldsValid (fields_of es) v → Sound (content_of r es v)
unfolding content_of
content_sound r [] v h = tt
content_sound r (e ∷ es) v h =
    either (eqb r e.role) (valued e.kind v.0) (content_of r es v.1) (valued_sound e.kind v.0 h.0) (content_sound r es v.1 h.1)

message_sound : (x : Message) → FieldsValid (layout x.kind) x.values → Sound (content_in XidRole x)
unfolding content_in layout
message_sound x h = content_sound XidRole (entries_of x.kind) x.values h

-- a number that is handed back of it
never : {A : Type 0} {r : Refused} {n : ℕ} → ◌≡◌ {A = Value} (Err r) (Ok n) → A
never {A} {r} {n} h = let k : ◌≡◌ {A = ℕ} 0 1 = cc in absurd (omega arith)

xid_within : (k : XidNumber) (x : Xid) → FieldValid layouts.xid x → (n : ℕ) → content_xid k (xid x) ≡ Ok n → WithinLimit k n
xid_within FormatId x h n e = tt
xid_within GtridLength null h n e = let z : 0 ≡ n = cc in omega arith
xid_within GtridLength (branch f g b d) h n e = let z : g ≡ n = cc in rw (← z) h.2
xid_within BqualLength null h n e = let z : 0 ≡ n = cc in omega arith
xid_within BqualLength (branch f g b d) h n e = let z : b ≡ n = cc in rw (← z) h.3

content_within : (k : XidNumber) (c : Content) → Sound c → (n : ℕ) → content_xid k c ≡ Ok n → WithinLimit k n
content_within k lacking h n e = never e
content_within k (bytes b) h n e = never e
content_within k (numeral m) h n e = never e
content_within k (xid x) h n e = xid_within k x h n e
content_within k (list x vs) h n e = never e

read_within : (v : ℕ) (m : List ℕ) → Bytes m → (k : XidNumber) (n : ℕ) → xid_answer (reading v m) k m ≡ Ok n → WithinLimit k n
read_within v m b k n e = go (reading v m) refl
  where
    go : (r : Reading) → reading v m ≡ r → WithinLimit k n
    go (Ok a) h =
        content_within k (content_in XidRole (message_in m)) (message_sound (message_in m) (accepted_valid v m a.kind a.used b h).0.fields) n
        (sym (xid_agrees_lem v m a.kind a.used h k) ∙ e)
    go (Err r) h = never (rw h at e)

-- ---- writing

-- an xid that is lent has its lengths within their limits
abbrev LentWithin : (f : Field) → Lent f → Type 0
LentWithin (one i) l = Unit
LentWithin (many w m is) l = Unit
LentWithin layouts.xid l = (l.gtrid ≤ gtrid_most) × (l.bqual ≤ bqual_most)

abbrev AllWithin : (fs : Fields) → Lents fs → Type 0
AllWithin [] l = Unit
AllWithin (f ∷ fs) l = LentWithin f.kind l.0 × AllWithin fs l.1

lent-within : (f : Field) (l : Lent f) → field_allowed f l ≡ true → LentWithin f l
unfolding field_allowed xid_allowed
lent-within (one i) l h = tt
lent-within (many w m is) l h = tt
lent-within layouts.xid l h =
    let k = both (leb l.gtrid gtrid_most) (leb l.bqual bqual_most) h in
    (leb-true l.gtrid gtrid_most k.0, leb-true l.bqual bqual_most k.1)

all_within : (fs : Fields) (l : Lents fs) → all_allowed fs l ≡ true → AllWithin fs l
unfolding all_allowed
all_within [] l h = tt
all_within (f ∷ fs) l h =
    let k = both (field_allowed f.kind l.0) (all_allowed fs l.1) h in
    (lent-within f.kind l.0 k.0, all_within fs l.1 k.1)

-- of any request that was written
written-within : (v : ℕ) (q : Request) (room n : ℕ) → writing v q room ≡ Ok n → AllWithin (layout q.kind) q.lent
unfolding writing allowing
written-within v q room n h =
    all_within (layout q.kind) q.lent (success v q.kind (agreeing q) (allowing q) (length (payload (message q))) room n h).allows

pub halves : (v : ℕ) → Halves v
unfolding rollback_request rollback_reply layout entries_of
halves v = record {
  read = read_within v;
  request = λ q room n h. (written-within v (rollback_request q) room n h).1.0;
  reply = λ q room n h. (written-within v (rollback_reply q) room n h).1.0;
}
