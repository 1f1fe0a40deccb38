-- A layer of tests whose reply goes on by `?`: where it passes, the reply is that of what follows.
use mathlib.Core.Path.{◌≡◌, refl}
use mathlib.Core.Bool.{Bool, true, false}
use Rattle.std.specs.Prelude.{Result, Ok, Err, ⊤}
use Rattle.link_rows.specs.Replies.{refuse}
use Rattle.link_rows.specs.declared.Record.{Record}
use Rattle.link_rows.specs.declared.Refusal.{Refusal}
use Rattle.link_record_replies.specs.Records.{head_tests, status_tests, count_tests}
use Rattle.link_record_replies.specs.declared.Seen.{Seen}

-- what the `?` of some tests makes of what follows
abbrev pub onward : {A : Type 0} → Result ⊤ Refusal → Result A Refusal → Result A Refusal
onward (Ok passed) rest = rest
onward (Err why) rest = Err why

line : {A : Type 0} {a : Result A Refusal} (rest : Result A Refusal) (tests : Result ⊤ Refusal) (why : Refusal) (t : Bool) → a ≡ onward tests rest → refuse why t a ≡ onward (refuse why t tests) rest
unfolding refuse
line rest tests why true e = refl
line rest tests why false e = e

pub head_onward : {A : Type 0} (h : Record) (rest : Result A Refusal) → head_tests h rest ≡ onward (head_tests h (Ok tt)) rest
unfolding head_tests
head_onward h rest = line _ _ _ _ (line _ _ _ _ (line _ _ _ _ (line _ _ _ _ (line _ _ _ _ (line _ _ _ _ refl)))))

pub status_onward : {A : Type 0} (seen : Seen) (h : Record) (rest : Result A Refusal) → status_tests seen h rest ≡ onward (status_tests seen h (Ok tt)) rest
status_onward seen h rest = line _ _ _ _ (line _ _ _ _ (line _ _ _ _ (line _ _ _ _ refl)))

pub count_onward : {A : Type 0} (seen : Seen) (h : Record) (rest : Result A Refusal) → count_tests seen h rest ≡ onward (count_tests seen h (Ok tt)) rest
count_onward seen h rest = line _ _ _ _ (line _ _ _ _ (line _ _ _ _ (line _ _ _ _ refl)))
