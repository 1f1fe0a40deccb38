-- The line of the program explain: the number, and behind it the parts that apply.
use Rattle.std.specs.Prelude.{ℕ, cond, List, [], ◌++◌, Option, None, Some}
use Rattle.message_walk.specs.declared.FieldName.{FieldName}
use Rattle.message_walk.specs.declared.Detail.{Detail}
use Rattle.message_walk.specs.declared.Detail.TheVariants.{Room, Value, Left}
use Rattle.message_walk.specs.declared.Reason.{Reason}
use Rattle.text.specs.Text.{words, decimal}
use Rattle.explain_line.specs.Parts.{reason_number, named, field_word}

-- words, and a number behind them
abbrev pub numbered : List ℕ → ℕ → List ℕ
numbered w n = w ++ decimal n

-- the field, if one is named
unfoldable pub field_part : Option FieldName → List ℕ
field_part n = cond (named n) (words " field " ++ field_word n) []

-- the element, if the field is in one
unfoldable pub element_part : Option ℕ → List ℕ
element_part None = []
element_part (Some n) = numbered (words " element ") n

-- what is wrong
unfoldable pub detail_part : Detail → List ℕ
detail_part (Room a b) = numbered (words " needed ") a ++ numbered (words " had ") b
detail_part (Value v) = numbered (words " value ") v
detail_part (Left n) = numbered (words " left ") n

-- all of them; none of an accepted message
unfoldable pub parts : Option Reason → List ℕ
parts None = []
parts (Some r) = field_part r.field ++ (element_part r.index ++ detail_part r.detail)

-- the line
unfoldable pub explain_line : Option Reason → List ℕ
explain_line r = numbered (words "answer ") (reason_number r) ++ (parts r ++ words "\n")
