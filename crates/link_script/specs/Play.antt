-- A script played: its calls performed one after another, by the steps of link_history, and the transcript of their answers.
use Rattle.std.specs.Prelude.{ℕ, zero, suc, ◌+◌, ◌≡◌, Bool, cond, List, [], ◌∷◌, ◌++◌, length, take, drop}
use Rattle.link_rows.specs.declared.Endpoint.{Endpoint}
use Rattle.link_bytes.specs.Store.{zeros}
use Rattle.link_history.specs.Calls.{Call, World, Step, step}
use Rattle.link_script.specs.declared.Played.{Played}
use Rattle.link_script.specs.Script.{entry_length, record_length, entry_of, data_of, is_taken, call_of, head_bytes}

-- the call of the entry at the front of the bytes: it gets the entry's data and an output that is filled with zeros
abbrev pub call_at : List ℕ → Call
call_at bytes = call_of (entry_of bytes) (data_of (entry_of bytes) bytes) (zeros (entry_of bytes).room)

-- it is performed
abbrev pub performed : World → List ℕ → Step
performed w bytes = step w (call_at bytes)

-- its record: the head, and the call's whole output
abbrev pub record_of : World → List ℕ → List ℕ
record_of w bytes = head_bytes (entry_of bytes) (performed w bytes).answer ++ (performed w bytes).out

-- where a script stands: the entries performed so far, their bytes, the bytes of their records, what the calls left, and the
-- transcript
pub record Play : Type 0 where
  pub entries : ℕ
  pub used : ℕ
  pub written : ℕ
  pub world : World
  pub transcript : List ℕ

-- what is left of the script, and of the transcript
abbrev pub script_left : Play → List ℕ → List ℕ
script_left s script = drop s.used script

abbrev pub left_of : Play → List ℕ
left_of s = drop s.written s.transcript

-- the next entry is taken
abbrev pub goes_on : Play → List ℕ → Bool
goes_on s script = is_taken (entry_of (script_left s script)) (length (left_of s))

-- after the next entry: its record stands behind those before, and no byte after it is touched
unfoldable pub next : Play → List ℕ → Play
next s script = record {
  entries = s.entries + 1;
  used = s.used + (entry_length + (entry_of (script_left s script)).size);
  written = s.written + (record_length + (entry_of (script_left s script)).room);
  world = (performed s.world (script_left s script)).world;
  transcript = take s.written s.transcript ++ (record_of s.world (script_left s script) ++ drop (record_length + (entry_of (script_left s script)).room) (left_of s));
}

-- at most n entries more, until one is not taken
unfoldable pub play_from : ℕ → Play → List ℕ → Play
play_from zero s script = s
play_from (suc n) s script = cond (goes_on s script) (play_from n (next s script) script) s

-- the list of the calls that it performs
unfoldable pub calls_from : ℕ → Play → List ℕ → List Call
calls_from zero s script = []
calls_from (suc n) s script = cond (goes_on s script) (call_at (script_left s script) ∷ calls_from n (next s script) script) []

-- their records, one behind the other
unfoldable pub records_from : ℕ → Play → List ℕ → List ℕ
records_from zero s script = []
records_from (suc n) s script = cond (goes_on s script) (record_of s.world (script_left s script) ++ records_from n (next s script) script) []

-- a script before its first entry
abbrev pub start_of : Endpoint → List ℕ → List ℕ → Play
start_of e store transcript = record { entries = 0; used = 0; written = 0; world = record { endpoint = e; store = store }; transcript = transcript }

-- a script played
unfoldable pub playing : ℕ → Endpoint → List ℕ → List ℕ → List ℕ → Play
playing n e store script transcript = play_from n (start_of e store transcript) script

-- a call that reports a and leaves store' and transcript' is the script played as s
pub record Plays (s : Play) (a : Played) (store' transcript' : List ℕ) : Type 0 where
  pub entries : a.entries ≡ s.entries
  pub used : a.used ≡ s.used
  pub written : a.written ≡ s.written
  pub endpoint : a.endpoint ≡ s.world.endpoint
  pub store : store' ≡ s.world.store
  pub transcript : transcript' ≡ s.transcript
