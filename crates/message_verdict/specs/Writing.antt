-- Writing a message at the agreed version v into an output: document 01's tests, in its order, and what the output holds afterwards.
use Rattle.std.specs.Prelude.{Result, Ok, Err, ℕ, ◌+◌, Bool, not, cond, ◌&&◌, List, [], ◌++◌, length, take, drop, ltb, eqb}
use Rattle.wire.specs.Replies.{number}
use Rattle.wire.specs.declared.Fault.{Fault}
use Rattle.wire.specs.declared.Fault.TheVariants.{NoSuchVersion, NotInVersion, TooLarge, NotAllowed, OutputShort, ListsDiffer}
use Rattle.message_layout.specs.Table.{layout, versions_of, holds, served}
use Rattle.message_layout.specs.Message.{payload, bytes_of_message, header_size, size_most}
use Rattle.message_lent.specs.Lent.{all_agree, all_allowed}
use Rattle.message_lent.specs.Requests.{Request, message}

-- what writing comes to: how many bytes the message has, or why it is refused
abbrev pub Written : Type 0
Written = Result ℕ Fault

-- ---- 48 and 45

-- 48 is not given: the correlation is one id, and all that is lent agrees
unfoldable pub agreeing : Request → Bool
agreeing r = eqb (length r.correlation) 16 && all_agree (layout r.kind) r.lent

-- 45 is not given
unfoldable pub allowing : Request → Bool
allowing r = all_allowed (layout r.kind) r.lent

-- ---- the tests

-- a test that refuses, or the tests after it
abbrev pub refuse : Bool → Fault → Written → Written
refuse test fault rest = cond test (Err fault) rest

-- 40, 42, 48, 45, 43, 47: of a message of type t with a payload of that size, into an output with that room
unfoldable pub verdict : ℕ → ℕ → Bool → Bool → ℕ → ℕ → Written
verdict v t agree allowed size room =
    refuse (not (served v)) NoSuchVersion
    (refuse (not (holds (versions_of t) v)) NotInVersion
    (refuse (not agree) ListsDiffer
    (refuse (not allowed) NotAllowed
    (refuse (ltb size_most size) TooLarge
    (refuse (ltb room (header_size + size)) OutputShort
    (Ok (header_size + size)))))))

-- the answer to a request
unfoldable pub writing : ℕ → Request → ℕ → Written
writing v r room = verdict v r.kind (agreeing r) (allowing r) (length (payload (message r))) room

-- ---- the output

-- bytes of that many at the front, and not a byte after them changed; a refusal writes nothing
abbrev pub output_of : Written → List ℕ → List ℕ → List ℕ
output_of (Ok n) x out = x ++ drop n out
output_of (Err f) x out = out

unfoldable pub written : ℕ → Request → List ℕ → List ℕ
written v r out = output_of (writing v r (length out)) (bytes_of_message (message r)) out

-- the part handed back: what was written, empty at a refusal
abbrev pub part_of : Written → List ℕ → List ℕ
part_of (Ok n) out = take n out
part_of (Err f) out = []

-- ---- document 01's number and values for each answer

-- the number: 0, or the fault's
abbrev pub number_of : Written → ℕ
number_of (Ok n) = 0
number_of (Err f) = number f

-- the used length, 0 at a refusal
abbrev pub used_of : Written → ℕ
used_of (Ok n) = n
used_of (Err f) = 0
