-- The version chosen for a 7200.
use Rattle.std.specs.Prelude.{ℕ, zero, suc, ◌+◌, max, cond, List, [], ◌∷◌, length, leb, Option, None, Some, Ok, Err}
use Rattle.wire.specs.Numbers.{number_at}
use Rattle.message_layout.specs.Roles.{ProtocolVersions}
use Rattle.message_layout.specs.Table.{served}
use Rattle.message_layout.specs.Message.{payload_in}
use Rattle.message_read.specs.Reading.{Reading}
use Rattle.message_fields.specs.declared.Found.{Found}
use Rattle.message_fields.specs.declared.Found.TheVariants.{Bytes, Number, Xid, List as Listed}
use Rattle.message_layout.specs.declared.Source.TheVariants as source
use Rattle.message_fields.specs.Fields.{field_in}

-- an offer counts if it is one of 1000 to 1004
abbrev pub counted : ℕ → ℕ
counted v = cond (served v) v 0

-- the greatest offered one among 1000 to 1004, or 0
unfoldable pub chosen : List ℕ → ℕ
chosen [] = 0
chosen (v ∷ vs) = max (counted v) (chosen vs)

-- n numbers of eight bytes from p on, as far as there are bytes
unfoldable pub numbers_at : ℕ → List ℕ → ℕ → List ℕ
numbers_at zero s p = []
numbers_at (suc n) s p = cond (leb (p + 8) (length s)) (number_at 8 s p ∷ numbers_at n s (p + 8)) []

-- the offers in the list that was found: as many as its count, which stands at p, says
abbrev pub offers_at : Option Found → List ℕ → List ℕ
offers_at None s = []
offers_at (Some (Bytes p n)) s = []
offers_at (Some (Number n)) s = []
offers_at (Some (Xid p)) s = []
offers_at (Some (Listed e p)) s = numbers_at (number_at 8 s p) s (p + 8)

-- the offers of a message; none where it is refused, or is no 7200
abbrev pub offers_in : Reading → List ℕ → List ℕ
offers_in (Ok a) m = offers_at (field_in ProtocolVersions (source.Message a.kind) (payload_in m)) (payload_in m)
offers_in (Err e) m = []
