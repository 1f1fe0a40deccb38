-- A script and the lists of calls of demand 3: what a script leaves is what the list of its calls leaves, and its transcript is the
-- records of these calls, one behind the other.
use mathlib.Core.Path.{◌≡◌, refl, sym, ap, ◌∙◌}
use mathlib.Core.Bool.{Bool, true, false, cond}
use mathlib.Core.List.{List, [], ◌∷◌, ◌++◌, append_assoc}
use Prim.Native.Nat.{ℕ, zero, suc, ◌+◌, ◌-◌, ◌≤◌}
use native.Mathlib.Omega.{arith}
use lib.ListN.{length, take, drop, length-append, length-drop, take-append-drop}
use lib.Seq.{length-take-le, take_at, drop_at, drop-drop}
use Rattle.link_rows.specs.declared.Endpoint.{Endpoint}
use Rattle.link_history.specs.Calls.{after}
use Rattle.link_script.specs.Script.{record_length, entry_of}
use Rattle.link_script.specs.Play.{Play, script_left, left_of, goes_on, next, record_of, call_at, play_from, calls_from, records_from, start_of, playing}
use Rattle.link_script.proofs.Laws.{taken_fits}
use Rattle.link_script.proofs.Outputs.{record_long}

turn : (n : ℕ) (s : Play) (script : List ℕ) (b : Bool) → (play_from n (next s script) script).world ≡ after (next s script).world (calls_from n (next s script) script)
    → (cond b (play_from n (next s script) script) s).world ≡ after s.world (cond b (call_at (script_left s script) ∷ calls_from n (next s script) script) [])
unfolding after next
turn n s script true h = h
turn n s script false h = refl

pub calls_leave : (n : ℕ) (s : Play) (script : List ℕ) → (play_from n s script).world ≡ after s.world (calls_from n s script)
unfolding play_from calls_from after
calls_leave zero s script = refl
calls_leave (suc n) s script = turn n s script (goes_on s script) (calls_leave n (next s script) script)

pub script_leaves : (n : ℕ) (e : Endpoint) (store script transcript : List ℕ)
    → (playing n e store script transcript).world ≡ after (record { endpoint = e; store = store }) (calls_from n (start_of e store transcript) script)
unfolding playing
script_leaves n e store script transcript = calls_leave n (start_of e store transcript) script

-- ---- the transcript

module _ (s : Play) (script : List ℕ) (r : s.written ≤ length s.transcript) (g : goes_on s script ≡ true) where
  abbrev more : List ℕ
  more = record_of s.world (script_left s script)

  abbrev reach : ℕ
  reach = s.written + (record_length + (entry_of (script_left s script)).room)

  -- the next record has room
  inside : reach ≤ length s.transcript
  inside = let f = taken_fits (entry_of (script_left s script)) (length (left_of s)) g in omega (arith, f.1, length-drop s.written s.transcript)

  front_long : length (take s.written s.transcript ++ more) ≡ reach
  front_long = rw (length-append, length-take-le s.written s.transcript r, record_long s.world (script_left s script)) refl

  -- it stands behind those before, and what follows it is as it was
  next_split : (next s script).transcript ≡ (take s.written s.transcript ++ more) ++ drop reach s.transcript
  unfolding next
  next_split = rw (drop-drop (record_length + (entry_of (script_left s script)).room) s.written s.transcript) (sym (append_assoc (take s.written s.transcript) more (drop reach s.transcript)))

  next-room : (next s script).written ≤ length (next s script).transcript
  unfolding next
  next-room = omega (arith, ap length next_split, length-append (take s.written s.transcript ++ more) (drop reach s.transcript), front_long)

  next_front : take (next s script).written (next s script).transcript ≡ take s.written s.transcript ++ more
  unfolding next
  next_front = ap (take reach) next_split ∙ take_at (take s.written s.transcript ++ more) (drop reach s.transcript) reach front_long

  next-rest : (k : ℕ) → (next s script).written ≤ k → drop k (next s script).transcript ≡ drop k s.transcript
  unfolding next
  next-rest k h =
      let z : reach + (k - reach) ≡ k = omega arith in
      ap (λ (i : ℕ). drop i (next s script).transcript) (sym z)
      ∙ sym (drop-drop (k - reach) reach (next s script).transcript)
      ∙ ap (drop (k - reach)) (ap (drop reach) next_split ∙ drop_at (take s.written s.transcript ++ more) (drop reach s.transcript) reach front_long)
      ∙ drop-drop (k - reach) reach s.transcript
      ∙ ap (λ (i : ℕ). drop i s.transcript) z

-- what is written only grows
grown : (n : ℕ) (s : Play) (script : List ℕ) (b : Bool) → (next s script).written ≤ (play_from n (next s script) script).written → s.written ≤ (cond b (play_from n (next s script) script) s).written
unfolding next
grown n s script true h = omega arith
grown n s script false h = omega arith

grows : (n : ℕ) (s : Play) (script : List ℕ) → s.written ≤ (play_from n s script).written
unfolding play_from
grows zero s script = omega arith
grows (suc n) s script = grown n s script (goes_on s script) (grows n (next s script) script)

abbrev Recorded : ℕ → Play → List ℕ → Type 0
Recorded n s script = (play_from n s script).transcript ≡ take s.written s.transcript ++ (records_from n s script ++ drop (play_from n s script).written s.transcript)

one_recorded : (n : ℕ) (s : Play) (script : List ℕ) → s.written ≤ length s.transcript → ((next s script).written ≤ length (next s script).transcript → Recorded n (next s script) script) → (b : Bool) → goes_on s script ≡ b
    → (cond b (play_from n (next s script) script) s).transcript
    ≡ take s.written s.transcript ++ (cond b (record_of s.world (script_left s script) ++ records_from n (next s script) script) [] ++ drop (cond b (play_from n (next s script) script) s).written s.transcript)
one_recorded n s script r rest true g =
    rest (next-room s script r g)
    ∙ rw (next_front s script r g, next-rest s script r g (play_from n (next s script) script).written (grows n (next s script) script)) (simp append_assoc)
one_recorded n s script r rest false g = sym (take-append-drop s.written s.transcript)

pub records_stand : (n : ℕ) (s : Play) (script : List ℕ) → s.written ≤ length s.transcript → Recorded n s script
unfolding play_from records_from
records_stand zero s script r = sym (take-append-drop s.written s.transcript)
records_stand (suc n) s script r = one_recorded n s script r (records_stand n (next s script) script) (goes_on s script) refl

-- the whole transcript: the records, and behind them not a byte is changed
pub script_records : (n : ℕ) (e : Endpoint) (store script transcript : List ℕ)
    → (playing n e store script transcript).transcript ≡ records_from n (start_of e store transcript) script ++ drop (playing n e store script transcript).written transcript
unfolding playing
script_records n e store script transcript = records_stand n (start_of e store transcript) script (omega arith)
