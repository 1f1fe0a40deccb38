-- The lines of the programs that write a message, read it and write it again.
use Rattle.std.specs.Prelude.{ℕ, Bool, false, cond, List, ◌++◌, eqb, length, Ok, Err}
use Rattle.message_read.specs.Reading.{Reading, reading}
use Rattle.message_fields.specs.Contents.{Value}
use Rattle.message_verdict.specs.Writing.{Written, number_of, used_of}
use Rattle.text.specs.Text.{words, decimal}
use Rattle.text.specs.Same.{same_bytes}

-- a value that was read, or a number that no test of these programs expects
abbrev pub value_read : Value → ℕ
value_read (Ok n) = n
value_read (Err r) = 0xffff_ffff_ffff_fffe

-- whether a message is accepted as that type, to its last byte
unfoldable pub is_read : Reading → ℕ → ℕ → Bool
is_read (Ok a) kind size = cond (eqb a.kind kind) (eqb a.used size) false
is_read (Err r) kind size = false

-- what a writer answered
abbrev pub answer_text : Written → List ℕ
answer_text a = words " answer " ++ (decimal (number_of a) ++ (words " used " ++ decimal (used_of a)))

-- the type, the number of elements and the writer's answer
abbrev pub head_text : ℕ → ℕ → Written → List ℕ
head_text kind n answer = decimal kind ++ (words " elements " ++ (decimal n ++ answer_text answer))

-- whether the message is read, and whether the second writing gave the same bytes
abbrev pub outcome_text : Bool → Bool → List ℕ
outcome_text read same =
    cond read (words " read,") (words " not read,") ++ cond same (words " written again the same\n") (words " written again otherwise\n")

-- the line of a message that was written, read and written again
abbrev pub report_line : ℕ → ℕ → Written → List ℕ → ℕ → List ℕ → List ℕ
report_line kind n answer message version again =
    head_text kind n answer ++ outcome_text (is_read (reading version message) kind (length message)) (same_bytes message again)

-- the same for a message that is written once
abbrev pub large_line : ℕ → Written → List ℕ
large_line size answer = words "3103 data " ++ (decimal size ++ (answer_text answer ++ words "\n"))
