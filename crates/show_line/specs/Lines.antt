-- The line of the program show.
use Rattle.std.specs.Prelude.{ℕ, List, Ok, Err}
use Rattle.wire.specs.Replies.{number}
use Rattle.message_read.specs.Reading.{Reading}
use Rattle.text.specs.Text.{words, two_numbers}

-- of an accepted message its type and used length, of a refused one the number and the place
unfoldable pub show_line : Reading → List ℕ
show_line (Ok a) = two_numbers (words "answer 0 type ") a.kind (words " used ") a.used
show_line (Err r) = two_numbers (words "answer ") (number r.fault) (words " place ") r.place
