-- Document 02's T-02: how the reading of any bytes at any version follows from that by the rule before. Where the reason names the data of a string, both answer 44, and
-- the place is 8 less; else the answer is the same.
use Prim.Native.Nat.{ℕ, ◌+◌, ◌-◌}
use native.Mathlib.Omega.{arith}
use mathlib.Core.Path.{◌≡◌, refl, sym, ap, subst, ◌∙◌}
use mathlib.Core.Bool.{Bool, true, false, cond}
use mathlib.Core.List.{List}
use Rattle.std.specs.Prelude.{Option, None, Some, Ok, Err}
use lib.ListN.{length, drop}
use lib.Dec.{ltb, eqb}
use Rattle.wire.specs.Numbers.{Bytes}
use Rattle.wire.specs.Reading.{Outcome, refused, read_end}
use Rattle.wire.specs.declared.Fault.{Fault}
use Rattle.wire.specs.declared.Fault.TheVariants.{NotWhole, NoSuchVersion, UnknownType, NotInVersion, TooLarge, RunsPast, NotAllowed, BytesAfter, OutputShort, ListsDiffer, NoElement, NoField}
use Rattle.wire.proofs.Bytes.{bytes_take, bytes_drop}
use Rattle.wire.proofs.Before.{present, former, fields_by, present_fields}
use Rattle.message_layout.specs.Table.{layout}
use Rattle.message_layout.specs.Message.{header_size, type_in, size_in, payload_in}
use Rattle.message_read.specs.Reading.{Reading, answer, tested, opening, reading}
use Rattle.message_read.specs.declared.Accepted.{Accepted}
use Rattle.message_read.proofs.Opening.{opened, opened-reading, tests_pass, tests_turned, turned-reading}
use Rattle.message_walk.specs.declared.FieldName.{FieldName}
use Rattle.message_walk.specs.declared.FieldName.TheVariants as field
use Rattle.message_walk.specs.declared.Piece.{Piece}
use Rattle.message_walk.specs.declared.Detail.{Detail}
use Rattle.message_walk.specs.declared.Detail.TheVariants.{Room}
use Rattle.message_walk.specs.declared.Reason.{Reason}
use Rattle.message_walk.specs.Walk.{end, walk}
use Rattle.message_walk.specs.Reasons.{at, fault_of, left_over, or_else, reason_of}
use Rattle.message_walk.specs.Standing.{Stands}
use Rattle.message_walk.proofs.Ends.{passes_reason, is_data, Ends, passed, stopped, walk_ends}
use Rattle.message_walk.proofs.Placed.{standing}
use Rattle.message_explain.specs.Explaining.{before as in_front, not_whole, header_reason, because, explaining}
use Rattle.message_explain.specs.Truth.{is_string_data}
use Rattle.message_explain.proofs.Answered.{table_data, data_short, data_behind}

-- the reading by the rule before: the same tests, and the fields with the former place of a string's data
unfoldable pub reading_before : ℕ → List ℕ → Reading
reading_before v m =
    tested v m
    (answer (type_in m) (header_size + size_in m) (read_end (payload_in m) (fields_by former (layout (type_in m)) (payload_in m) 0)))

-- a field that is named is the data of a string
abbrev pub is_data_name : Option FieldName → Bool
is_data_name None = false
is_data_name (Some field.Header) = false
is_data_name (Some field.Payload) = false
is_data_name (Some field.HeaderType) = false
is_data_name (Some field.HeaderSize) = false
is_data_name (Some (field.Piece src k j)) = is_string_data src k j

-- the field that a reason names is
abbrev pub names_data : Option Reason → Bool
names_data None = false
names_data (Some r) = is_data_name r.field

-- the change, of a message whose reason is r
pub record Follows (v : ℕ) (m : List ℕ) (r : Option Reason) : Type 0 where
  pub moved : names_data r ≡ true → (p : ℕ) × (reading_before v m ≡ Err (refused RunsPast (p + 8))) × (reading v m ≡ Err (refused RunsPast p))
  pub same : names_data r ≡ false → reading v m ≡ reading_before v m

-- a reason that names no string's data
unmoved : {v : ℕ} {m : List ℕ} (r : Option Reason) → names_data r ≡ false → reading v m ≡ reading_before v m → Follows v m r
unmoved r h e = record { moved = λ k. cc; same = λ k. e }

neither : (b : Bool) (x y : Option Reason) → names_data x ≡ false → names_data y ≡ false → names_data (cond b x y) ≡ false
neither true x y h k = h
neither false x y h k = k

whole_names : (m : List ℕ) → names_data (Some (not_whole m)) ≡ false
whole_names m = go (ltb (length m) header_size)
  where
    go : (b : Bool) → is_data_name (cond b (in_front NotWhole (Some field.Header) (Room header_size (length m))) (in_front NotWhole (Some field.Payload) (Room (size_in m) (length m - header_size)))).field ≡ false
    go true = refl
    go false = refl

header-names : (f : Fault) (v : ℕ) (m : List ℕ) → names_data (header_reason f v m) ≡ false
header-names NotWhole v m = whole_names m
header-names NoSuchVersion v m = refl
header-names UnknownType v m = refl
header-names NotInVersion v m = refl
header-names TooLarge v m = refl
header-names RunsPast v m = refl
header-names NotAllowed v m = refl
header-names BytesAfter v m = refl
header-names OutputShort v m = refl
header-names ListsDiffer v m = refl
header-names NoElement v m = refl
header-names NoField v m = refl

left_names : (s : List ℕ) (p : ℕ) → names_data (left_over s p) ≡ false
left_names s p = neither (eqb p (length s)) _ _ refl refl

module _ (v : ℕ) (m : List ℕ) where
  abbrev s : List ℕ
  s = payload_in m

  -- ---- the fields of a message that was opened

  module _ (a : Accepted) (h : opening v m ≡ Ok a) where
    abbrev t : ℕ
    t = a.kind

    now : reading v m ≡ answer t a.used (read_end s (fields_by present (layout t) s 0))
    now = opened-reading v m a h ∙ ap (λ (o : Outcome). answer t a.used (read_end s o)) (sym (present_fields s (layout t) 0))

    before : reading_before v m ≡ answer t a.used (read_end s (fields_by former (layout t) s 0))
    unfolding reading_before
    before = rw ((opened v m a h).1, (opened v m a h).2) (tests_pass v m (opened v m a h).0 _)

    at_fault : (x : Piece) (f : Fault) (d : Detail) → reading v m ≡ Err (refused f (cond (is_data x.piece x.form) (x.place - 8) x.place))
        → reading_before v m ≡ Err (refused f x.place) → Stands s t x → fault_of s x ≡ Some (at x f d) → Follows v m (Some (at x f d))
    at_fault x f d e b stands z = go (is_data x.piece x.form) refl
      where
        go : (c : Bool) → is_data x.piece x.form ≡ c → Follows v m (Some (at x f d))
        go true c = record {
          moved = λ k. let i : x.place ≡ x.place - 8 + 8 = omega (arith, data_behind stands c) in
              let g : f ≡ RunsPast = data_short s x f d z c in
              (x.place - 8, b ∙ rw (g, ← i), e ∙ rw (c, g));
          same = λ k. cc (table_data stands);
        }
        go false c = unmoved (Some (at x f d)) (table_data stands ∙ c) (e ∙ rw c (sym b))

    in_fields_lem : Ends s (walk s t) end (λ r. fields_by r (layout t) s 0) → Follows v m (reason_of s (walk s t))
    unfolding reason_of read_end answer
    in_fields_lem (passed q e l k) =
        subst (Follows v m) (sym (passes_reason k)) (unmoved (left_over s q) (left_names s q) (now ∙ rw (e present) (sym (before ∙ rw (e former)))))
    in_fields_lem (stopped x w f d e l k z) =
        subst (Follows v m) (sym (passes_reason k ∙ ap (λ (r : Option Reason). or_else r (reason_of s w)) z))
        (at_fault x f d (now ∙ rw (e present)) (before ∙ rw (e former)) (standing s t x w k) z)

  -- for all bytes and versions
  pub follows : Bytes m → Follows v m (explaining v m)
  unfolding explaining reading_before
  follows bytes = go (opening v m) refl
    where
      go : (a : Reading) → opening v m ≡ a → Follows v m (because a v m)
      go (Err r) h = unmoved (header_reason r.fault v m) (header-names r.fault v m) (turned-reading v m r h ∙ sym (tests_turned v m r h _))
      go (Ok a) h = in_fields_lem a h (walk_ends s (bytes_take (size_in m) (drop header_size m) (bytes_drop header_size m bytes)) a.kind)
