-- Two lists of calls that session 1 cannot tell apart. They differ in the data of session 2, in a single receive, inside a run, in a
-- refused TRANSMIT and in a transmit of ours; and in bytes behind a record, behind a run's last record, and behind the one that stopped it.
use mathlib.Core.Path.{◌≡◌, refl}
use mathlib.Core.Bool.{true, false, true≢false}
use mathlib.Core.List.{List, [], ◌∷◌, map}
use Prim.Native.Nat.{ℕ}
use native.Mathlib.Omega.{arith}
use lib.ListN.{length, replicate, length-replicate}
use Rattle.link_rows.specs.Rows.{is_served, row_of, opens_half, next_after, fresh_endpoint}
use Rattle.link_rows.specs.Rules.{every, distinct, rules, Rules}
use Rattle.link_rows.specs.Replies.{refuse}
use Rattle.link_replies.specs.Calls.{make_reply, checked, ready, named, request_reply, transmit_reply, read_reply}
use Rattle.link_record_replies.specs.Records.{head_tests, row_tests, last_tests, seen_reply, receive_reply}
use Rattle.link_changes.specs.Changes.{opened, downed}
use Rattle.link_bytes.specs.Records.{head_of}
use Rattle.link_bytes.specs.Store.{clear_row, queue_data, take_front}
use Rattle.link_calls.specs.Calls.{make_endpoint, make_store, request_endpoint, request_out, transmit_endpoint, transmit_out, read_endpoint, read_store, read_out, making, requesting, transmitting, reading}
use Rattle.link_receive.specs.Receive.{received_row, receive_endpoint, receive_store, receive_out, receiving}
use Rattle.link_receive.specs.Run.{next_of, took, stopped, run_from, running}
use Rattle.link_history.specs.Calls.{Call, Requesting, Transmitting, Reading, Receiving, Running, World, step, start}
use Rattle.link_history.specs.Ledger.{Ledger, noted, note, blank, opens, requests, reads, takes, transmits, grants, shuts, breaks, accepts, receives, runs}
use Rattle.link_history.specs.Statement.{number_in, visible, AlikeRuns, Alike, same, transmit, receive, run, AlikeLists, none, more, views}
use Rattle.link_history.proofs.NoCrossing.{no_crossing}

-- a fresh endpoint; the other end began the link
abbrev pub fresh : World
fresh = start false (replicate 32768 0)

-- x stands for the data of session 2, and y for bytes that are nobody's; the data of session 1 is 11 12 13
abbrev pub told : ℕ → ℕ → List Call
told x y =
    -- two OPENs, and a byte that the run of two records does not come to
    Running 2 (0xE1 ∷ 0x80 ∷ 0 ∷ 0xE1 ∷ 0x80 ∷ 1 ∷ y ∷ []) []
    ∷ Requesting 0x8000 1 5 (replicate 7 0)
    ∷ Requesting 0x8001 2 5 (replicate 7 0)
    -- two bytes for session 2, and a byte behind the record
    ∷ Receiving (0xE5 ∷ 0x80 ∷ 1 ∷ 0 ∷ 0 ∷ 0 ∷ 2 ∷ x ∷ x ∷ y ∷ []) []
    -- a REQUEST for session 2, and a byte behind it; then we send to session 2
    ∷ Receiving (0xE4 ∷ 0x80 ∷ 1 ∷ 0 ∷ 0 ∷ 0 ∷ 9 ∷ y ∷ []) []
    ∷ Transmitting 0x8001 2 (x ∷ x ∷ []) (replicate 9 0)
    -- an OPEN, and two bytes behind it, where other records have their count
    ∷ Receiving (0xE1 ∷ 0x80 ∷ 2 ∷ y ∷ y ∷ []) []
    -- three bytes for session 1, one for session 2, and more for session 2 than we asked for, which stops the run
    ∷ Running 9 (0xE5 ∷ 0x80 ∷ 0 ∷ 0 ∷ 0 ∷ 0 ∷ 3 ∷ 11 ∷ 12 ∷ 13 ∷ 0xE5 ∷ 0x80 ∷ 1 ∷ 0 ∷ 0 ∷ 0 ∷ 1 ∷ x ∷ 0xE5 ∷ 0x80 ∷ 1 ∷ 0 ∷ 0 ∷ 0 ∷ 3 ∷ x ∷ x ∷ x ∷ y ∷ y ∷ []) []
    ∷ Reading 0x8001 2 (0 ∷ 0 ∷ 0 ∷ 0 ∷ [])
    ∷ Reading 0x8000 1 (0 ∷ 0 ∷ 0 ∷ 0 ∷ [])
    ∷ []

-- lists are alike by the numbers and accepted counts of the first one's answers
unfoldable answers : World → List Call → List (ℕ × ℕ)
answers w [] = []
answers w (c ∷ cs) = (number_in (step w c), (step w c).answer.accepted) ∷ answers (step w c).world cs

unfoldable AlikeBy : ℕ → Ledger → List (ℕ × ℕ) → List Call → List Call → Type 0
AlikeBy s l [] cs ds = Unit
AlikeBy s l (a ∷ rest) [] ds = ⊥
AlikeBy s l (a ∷ rest) (c ∷ cs) [] = ⊥
AlikeBy s l (a ∷ rest) (c ∷ cs) (d ∷ ds) = Alike s l a.0 a.1 c d × AlikeBy s (noted c a.0 a.1 l) rest cs ds

by_answers : (s : ℕ) (w : World) (l : Ledger) (cs ds : List Call) → length cs ≡ length ds → AlikeBy s l (answers w cs) cs ds → AlikeLists s w l cs ds
unfolding answers AlikeBy
by_answers s w l [] [] n h = none w l
by_answers s w l [] (d ∷ ds) n h = absurd (omega (arith, n))
by_answers s w l (c ∷ cs) [] n h = absurd h
by_answers s w l (c ∷ cs) (d ∷ ds) n h = more w l c d cs ds h.0 (by_answers s (step w c).world (note w c l) cs ds (omega (arith, n)) h.1)

answered : (x y : ℕ) → answers fresh (told x y) ≡ (0, 2) ∷ (0, 0) ∷ (0, 0) ∷ (0, 0) ∷ (0, 0) ∷ (0, 0) ∷ (0, 0) ∷ (27, 2) ∷ (0, 0) ∷ (0, 0) ∷ []
unfolding answers start making make_reply make_endpoint make_store refuse fresh_endpoint checked ready named request_reply transmit_reply read_reply head_tests row_tests last_tests seen_reply receive_reply opened downed head_of clear_row queue_data take_front requesting request_endpoint request_out transmitting transmit_endpoint transmit_out reading read_endpoint read_store read_out received_row receive_endpoint receive_store receive_out receiving next_of took stopped run_from running is_served row_of opens_half next_after every distinct rules Rules
answered x y = refl

-- the parts of two runs that are alike
both : {A B : Type 0} → A → B → A × B
both a b = (a, b)

ended : {A : Type 0} → true ≡ false → A
ended q = absurd (true≢false q)

alike_stop : {x : List ℕ} → false ≡ false → x ≡ x
alike_stop q = refl

by_call : (x y x' y' : ℕ) → AlikeBy 1 blank ((0, 2) ∷ (0, 0) ∷ (0, 0) ∷ (0, 0) ∷ (0, 0) ∷ (0, 0) ∷ (0, 0) ∷ (27, 2) ∷ (0, 0) ∷ (0, 0) ∷ []) (told x y) (told x' y')
unfolding AlikeBy head_of blank opens requests reads takes transmits grants shuts breaks accepts receives runs visible AlikeRuns
by_call x y x' y' = (
  run 2 _ _ _ refl (both refl (both refl ended)),
  (
    same _,
    (
      same _,
      (
        receive _ _ _ refl refl,
        (
          receive _ _ _ refl refl,
          (
            transmit _ _ _ _ _ refl refl,
            (
              receive _ _ _ refl refl,
              (
                run 9 _ _ _ refl (both refl (both refl alike_stop)),
                (
                  same _,
                  (same _, tt),
                ),
              ),
            ),
          ),
        ),
      ),
    ),
  ),
)

pub alike : (x y x' y' : ℕ) → AlikeLists 1 fresh blank (told x y) (told x' y')
alike x y x' y' = by_answers 1 fresh blank (told x y) (told x' y') refl (rw (answered x y) (by_call x y x' y'))

-- so session 1 sees the same of both, by demand 3
pub same_views : (x y x' y' : ℕ) → views 1 fresh (told x y) ≡ views 1 fresh (told x' y')
same_views x y x' y' = (no_crossing false (replicate 32768 0) (length-replicate {A = ℕ} 32768 0)).substitution 1 (told x y) (told x' y') (alike x y x' y')

-- it sees something: the outputs, where those of a transmit and a read that name session 2 are hidden; the last one is its own read
pub seen_outputs : (x y : ℕ) → map (λ v. v.out) (views 1 fresh (told x y)) ≡ [] ∷ (0xE4 ∷ 0x80 ∷ 0 ∷ 0 ∷ 0 ∷ 0 ∷ 5 ∷ []) ∷ (0xE4 ∷ 0x80 ∷ 1 ∷ 0 ∷ 0 ∷ 0 ∷ 5 ∷ []) ∷ [] ∷ [] ∷ [] ∷ [] ∷ [] ∷ [] ∷ (11 ∷ 12 ∷ 13 ∷ 0 ∷ []) ∷ []
unfolding views start making make_reply make_endpoint make_store refuse fresh_endpoint checked ready named request_reply transmit_reply read_reply head_tests row_tests last_tests seen_reply receive_reply opened downed head_of clear_row queue_data take_front requesting request_endpoint request_out transmitting transmit_endpoint transmit_out reading read_endpoint read_store read_out received_row receive_endpoint receive_store receive_out receiving next_of took stopped run_from running is_served row_of opens_half next_after every distinct rules Rules
seen_outputs x y = refl

-- two of these lists: they are not the same
pub differ : told 21 1 ≡ told 31 2 → ⊥
differ e = let z : ◌≡◌ {A = ℕ} 1 2 = cc in omega arith
