-- What calls report, as steps; an entry's record in the transcript.
use mathlib.Core.Path.{◌≡◌, refl, sym, ap, ◌∙◌}
use mathlib.Core.Bool.{Bool, true, false, cond, ◌&&◌}
use mathlib.Core.List.{List, ◌++◌, append_assoc}
use Prim.Native.Nat.{ℕ, zero, suc, ◌+◌, ◌-◌, ◌≤◌}
use native.Mathlib.Omega.{arith}
use lib.Dec.{leb}
use lib.ListN.{length, take, drop, length-append, length-drop}
use lib.Seq.{length-take-le, drop_at, drop-drop}
use borrow.Rule.Slice.PartMut.{mid_of, put_mid}
use borrow.Author.Tests.{leb-true, lt-leb, le-leb, ne_eqb}
use Rattle.std.specs.Prelude.{Option, Some, None}
use Rattle.link_rows.proofs.Laws.{and_left, and_right}
use Rattle.link_rows.specs.Replies.{used_by, written_by}
use Rattle.link_rows.specs.declared.Answer.{Answer}
use Rattle.link_changes.specs.Outcome.{Outcome, Leaves}
use Rattle.link_bytes.specs.Records.{fitted}
use Rattle.link_bytes.specs.Store.{zeros}
use Rattle.link_bytes.proofs.Lent.{fitted-is}
use Rattle.link_receive.specs.declared.Ran.{Ran}
use Rattle.link_receive.specs.Run.{Run}
use Rattle.link_receive.specs.Ran.{Runs}
use Rattle.link_history.specs.Calls.{World, Step, step, single, several}
use Rattle.link_script.specs.declared.Entry.{Entry}
use Rattle.link_script.specs.declared.Did.{Did}
use Rattle.link_script.specs.declared.Kind.{Kind}
use Rattle.link_script.specs.declared.Kind.TheVariants as kinds
use Rattle.link_script.specs.Script.{Head, head_in, is_taken, call_of, head_bytes, kind_number, kind_of, entered, has_room, taken_as, taken}
use Rattle.link_script.specs.Inner.{Does, did_of, did_run, answer_of, Fits, Performs}

pub single_does : (o : Outcome) (a : Answer) (d : Did) (s z : List ℕ) → Leaves o a s z → d ≡ did_of a → Does (single o) d s z
single_does o a d s z l q = rw q (record { reply = l.reply; accepted = refl; used = ap used_by l.reply; written = ap written_by l.reply; endpoint = l.endpoint; store = l.store; out = l.out })

pub several_does : (r : Run) (a : Ran) (d : Did) (s z : List ℕ) → Runs r a s z → d ≡ did_run a → Does (several r) d s z
several_does r a d s z l q = rw q (record { reply = l.stop; accepted = l.accepted; used = l.used; written = l.written; endpoint = l.endpoint; store = l.store; out = l.out })

-- an entry that is taken is there whole, and its record has room
pub taken_fits : (en : Head) (left : ℕ) → is_taken en left ≡ true → (16 + en.size ≤ en.available) × (20 + en.room ≤ left)
unfolding is_taken
taken_fits en left h =
    let r = and_right (leb 1 en.kind && leb en.kind 7) (leb (16 + en.size) en.available && leb (20 + en.room) left) h in
    (leb-true _ _ (and_left (leb (16 + en.size) en.available) (leb (20 + en.room) left) r), leb-true _ _ (and_right (leb (16 + en.size) en.available) (leb (20 + en.room) left) r))

answer-is : (s : Step) (d : Did) (st z : List ℕ) → Does s d st z → answer_of d ≡ s.answer
answer-is s d st z l = rw (l.reply, l.accepted, l.used, l.written) refl

-- a head written before an output that is back
head_back : (head out z : List ℕ) (room : ℕ) → length head ≡ 20 → 20 + room ≤ length out → fitted head (put_mid 20 room out z) ≡ head ++ (z ++ drop (20 + room) out)
head_back head out z room l h =
    let t : length (take 20 out) ≡ 20 = length-take-le 20 out (omega arith) in
    fitted-is head (put_mid 20 room out z) (omega (arith, length-append (take 20 out) (z ++ drop room (drop 20 out))))
    ∙ rw (l, drop_at (take 20 out) (z ++ drop room (drop 20 out)) 20 t, drop-drop room 20 out) refl

module _ (w : World) (en : Entry) (bytes out : List ℕ) (f : Fits en bytes out) (d : Did) (store' z out' : List ℕ)
    (l : Does (step w (call_of (head_in 0 en) (mid_of 16 (16 + en.size - 16) bytes) (zeros (length (mid_of 20 (20 + en.room - 20) out))))) d store' z)
    (b : out' ≡ fitted (head_bytes (head_in 0 en) (answer_of d)) (put_mid 20 (20 + en.room - 20) out z)) where
  stepped : Step
  stepped = step w (call_of (head_in 0 en) (take en.size (drop 16 bytes)) (zeros en.room))

  does : Does stepped d store' z
  unfolding stepped
  does =
      let m : 16 + en.size - 16 ≡ en.size = omega arith in
      let k : 20 + en.room - 20 ≡ en.room = omega arith in
      let h = f.room in
      let n : length (take en.room (drop 20 out)) ≡ en.room = length-take-le en.room (drop 20 out) (omega (arith, length-drop 20 out)) in
      rw (m, k, n) at l

  out_is : out' ≡ (head_bytes (head_in 0 en) stepped.answer ++ stepped.out) ++ drop (20 + en.room) out
  out_is =
      let k : 20 + en.room - 20 ≡ en.room = omega arith in
      let h : Head = head_in 0 en in
      b
      ∙ ap (λ (n : ℕ). fitted (head_bytes h (answer_of d)) (put_mid 20 n out z)) k
      ∙ ap (λ a. fitted (head_bytes h a) (put_mid 20 en.room out z)) (answer-is stepped d store' z does)
      ∙ head_back (head_bytes h stepped.answer) out z en.room refl f.room
      ∙ ap (λ (y : List ℕ). head_bytes h stepped.answer ++ (y ++ drop (20 + en.room) out)) does.out
      ∙ sym (append_assoc (head_bytes h stepped.answer) stepped.out (drop (20 + en.room) out))

  -- the step, and what it leaves of the transcript, by the head alone
  by_head_lem : Head → Step
  by_head_lem h = step w (call_of h (take h.size (drop 16 bytes)) (zeros h.room))

  pub performs : Performs w bytes out d.endpoint store' out'
  unfolding stepped by_head_lem call_of
  performs = record {
    endpoint = does.endpoint ∙ ap (λ (h : Head). (by_head_lem h).world.endpoint) f.head;
    store = does.store ∙ ap (λ (h : Head). (by_head_lem h).world.store) f.head;
    out = out_is ∙ ap (λ (h : Head). (head_bytes h (by_head_lem h).answer ++ (by_head_lem h).out) ++ drop (20 + h.room) out) f.head;
  }

-- ---- an entry that is taken, of a kind that is known

-- no kind has a greater number
far : (n : ℕ) → kind_of (8 + n) ≡ None
far n =
    rw (ne_eqb (8 + n) 1 (λ e. omega (arith, e)), ne_eqb (8 + n) 2 (λ e. omega (arith, e)), ne_eqb (8 + n) 3 (λ e. omega (arith, e)), ne_eqb (8 + n) 4 (λ e. omega (arith, e)), ne_eqb (8 + n) 5 (λ e. omega (arith, e)), ne_eqb (8 + n) 6 (λ e. omega (arith, e)), ne_eqb (8 + n) 7 (λ e. omega (arith, e))) refl

kind_said : (n : ℕ) (k : Kind) → kind_of n ≡ Some k → n ≡ kind_number k
kind_said zero k h = cc
kind_said (suc zero) k h = let e : kinds.Open ≡ k = cc in rw (← e) refl
kind_said (suc (suc zero)) k h = let e : kinds.Close ≡ k = cc in rw (← e) refl
kind_said (suc (suc (suc zero))) k h = let e : kinds.Request ≡ k = cc in rw (← e) refl
kind_said (suc (suc (suc (suc zero)))) k h = let e : kinds.Transmit ≡ k = cc in rw (← e) refl
kind_said (suc (suc (suc (suc (suc zero))))) k h = let e : kinds.Read ≡ k = cc in rw (← e) refl
kind_said (suc (suc (suc (suc (suc (suc zero)))))) k h = let e : kinds.Receive ≡ k = cc in rw (← e) refl
kind_said (suc (suc (suc (suc (suc (suc (suc zero))))))) k h = let e : kinds.Run ≡ k = cc in rw (← e) refl
kind_said (suc (suc (suc (suc (suc (suc (suc (suc n)))))))) k h = let e : 8 + n ≡ (suc (suc (suc (suc (suc (suc (suc (suc n)))))))) = omega arith in let f = rw e at (far n) in cc

kind_known : (k : Kind) → (leb 1 (kind_number k) && leb (kind_number k) 7) ≡ true
kind_known kinds.Open = refl
kind_known kinds.Close = refl
kind_known kinds.Request = refl
kind_known kinds.Transmit = refl
kind_known kinds.Read = refl
kind_known kinds.Receive = refl
kind_known kinds.Run = refl

kind_none : (n : ℕ) → kind_of n ≡ None → (leb 1 n && leb n 7) ≡ false
kind_none zero h = refl
kind_none (suc zero) h = cc
kind_none (suc (suc zero)) h = cc
kind_none (suc (suc (suc zero))) h = cc
kind_none (suc (suc (suc (suc zero)))) h = cc
kind_none (suc (suc (suc (suc (suc zero))))) h = cc
kind_none (suc (suc (suc (suc (suc (suc zero)))))) h = cc
kind_none (suc (suc (suc (suc (suc (suc (suc zero))))))) h = cc
kind_none (suc (suc (suc (suc (suc (suc (suc (suc n)))))))) h = rw (le-leb 1 (suc (suc (suc (suc (suc (suc (suc (suc n)))))))) (omega arith), lt-leb (suc (suc (suc (suc (suc (suc (suc (suc n)))))))) 7 (omega arith)) refl

module _ (h : Head) (left : ℕ) where
  pub taken_none : taken h left ≡ None → is_taken h left ≡ false
  unfolding is_taken
  taken_none = go (kind_of h.kind) refl
    where
      roomless : (k : Kind) (b : Bool) → cond b (Some (entered h k)) None ≡ None → b ≡ false
      roomless k true e = cc
      roomless k false e = refl

      go : (o : Option Kind) → kind_of h.kind ≡ o → taken_as o h left ≡ None → is_taken h left ≡ false
      go None e q = rw (kind_none h.kind e) refl
      go (Some k) e q = rw (kind_said h.kind k e, kind_known k, roomless k (has_room h left) q) refl

  pub taken_some : (en : Entry) → taken h left ≡ Some en → (is_taken h left ≡ true) × (head_in h.available en ≡ h)
  unfolding is_taken
  taken_some en = go (kind_of h.kind) refl
    where
      is : (k : Kind) → kind_of h.kind ≡ Some k → head_in h.available (entered h k) ≡ h
      is k e = ap (λ (n : ℕ). record { available = h.available; kind = n; id = h.id; session = h.session; amount = h.amount; room = h.room; size = h.size }) (sym (kind_said h.kind k e))

      roomy : (k : Kind) (b : Bool) → cond b (Some (entered h k)) None ≡ Some en → (b ≡ true) × (entered h k ≡ en)
      roomy k true e = (refl, cc)
      roomy k false e = (cc, cc)

      go : (o : Option Kind) → kind_of h.kind ≡ o → taken_as o h left ≡ Some en → (is_taken h left ≡ true) × (head_in h.available en ≡ h)
      go None e q = (cc, cc)
      go (Some k) e q = let r = roomy k (has_room h left) q in (rw (kind_said h.kind k e, kind_known k, r.0) refl, rw (← r.1) (is k e))
