-- What a reply 0 to a call of ours says of the endpoint, the numbers and the lengths.
use mathlib.Core.Path.{◌≡◌, refl, sym, ap, ◌∙◌}
use mathlib.Core.Bool.{Bool, true, false, ◌||◌, true≢false}
use Prim.Native.Nat.{ℕ, ◌+◌, ◌≤◌, min}
use native.Mathlib.Omega.{arith}
use borrow.Author.Tests.{ltb-false, eqb-true, eqb-false, not-false}
use lib.Dec.{eqb}
use Rattle.link_rows.specs.Limits.{short_length, long_length, row_length, store_length}
use Rattle.link_rows.specs.Rows.{is_closed, is_open, is_served, is_ours, row_for, is_spent, next_session}
use Rattle.link_rows.specs.Rules.{Rules}
use Rattle.link_rows.specs.Replies.{refuse, session_of, written_by}
use Rattle.link_rows.specs.declared.Endpoint.{Endpoint}
use Rattle.link_rows.specs.declared.Refusal.{Refusal}
use Rattle.link_replies.specs.Calls.{checked, ready, named, open_reply, close_reply, request_reply, transmit_reply, read_reply}
use Rattle.link_rows.specs.declared.Done.{Done}
use Rattle.std.specs.Prelude.{Result, Ok, Err}

-- a call that is not refused passes the test, and goes on
pub passed : {A : Type 0} (why : Refusal) (t : Bool) (rest : Result A Refusal) {v : A} → refuse why t rest ≡ Ok v → (t ≡ false) × (rest ≡ Ok v)
unfolding refuse
passed why false rest e = (refl, e)
passed why true rest e = let z : ◌≡◌ {A = ℕ} 0 1 = cc in absurd (omega arith)

pub or_false_left : (a b : Bool) → (a || b) ≡ false → a ≡ false
or_false_left false b e = refl
or_false_left true b e = e

pub or_false_right : (a b : Bool) → (a || b) ≡ false → b ≡ false
or_false_right false b e = e
or_false_right true b e = absurd (true≢false e)

-- 2 and 3 passed
pub checked_done : {A : Type 0} (e : Endpoint) (store_len : ℕ) (rest : Result A Refusal) {v : A} → checked e store_len rest ≡ Ok v → (store_len ≡ store_length) × (Rules e ≡ true) × (rest ≡ Ok v)
unfolding checked
checked_done e store_len rest d =
    let p2 = passed _ _ _ d in
    let p3 = passed _ _ _ p2.1 in
    (eqb-true _ _ (not-false _ p2.0), not-false _ p3.0, p3.1)

-- 2, 3 and 4 passed
pub record Passed (e : Endpoint) (store_len : ℕ) : Type 0 where
  pub whole : store_len ≡ store_length
  pub rules : Rules e ≡ true
  pub up : e.down ≡ false

pub ready_done : {A : Type 0} (e : Endpoint) (store_len : ℕ) (rest : Result A Refusal) {v : A} → ready e store_len rest ≡ Ok v → Passed e store_len × (rest ≡ Ok v)
unfolding ready
ready_done e store_len rest d =
    let p = checked_done e store_len _ d in
    let p4 = passed _ _ _ p.2 in
    (record { whole = p.0; rules = p.1; up = p4.0 }, p4.1)

-- then the reply is that of what follows
pub ready_past : {A : Type 0} (e : Endpoint) (store_len : ℕ) (rest : Result A Refusal) → Passed e store_len → ready e store_len rest ≡ rest
unfolding ready checked refuse
ready_past e store_len rest p = rw (p.whole, p.rules, p.up) refl

-- 5 and 8 passed
pub record Named (e : Endpoint) (id session : ℕ) : Type 0 where
  pub served : is_served id ≡ true
  pub some : session ≡ 0 → ⊥
  pub latest : session ≡ (row_for e id).session

pub named_done : {A : Type 0} (e : Endpoint) (id session : ℕ) (rest : Result A Refusal) {v : A} → named e id session rest ≡ Ok v → Named e id session × (rest ≡ Ok v)
unfolding named
named_done e id session rest d =
    let p5 = passed _ _ _ d in
    let p8 = passed _ _ _ p5.1 in (
      record {
        served = not-false _ p5.0;
        some = eqb-false _ _ (or_false_left _ _ p8.0);
        latest = eqb-true _ _ (not-false _ (or_false_right (eqb session 0) _ p8.0));
      },
      p8.1,
    )

pub record OpenDone (e : Endpoint) (store_len id out_len : ℕ) (v : Done) : Type 0 where
  pub passed : Passed e store_len
  pub served : is_served id ≡ true
  pub ours : is_ours e id ≡ true
  pub closed : is_closed (row_for e id).status ≡ true
  pub spare : is_spent e ≡ false
  pub room : short_length ≤ out_len
  pub session : v.session ≡ next_session e
  pub written : v.written ≡ short_length

pub open_done : (e : Endpoint) (store_len id out_len : ℕ) {v : Done} → open_reply e store_len id out_len ≡ Ok v → OpenDone e store_len id out_len v
unfolding open_reply
open_done e store_len id out_len d =
    let p = ready_done e store_len _ d in
    let p5 = passed _ _ _ p.1 in
    let p6 = passed _ _ _ p5.1 in
    let p7 = passed _ _ _ p6.1 in
    let p14 = passed _ _ _ p7.1 in
    let p13 = passed _ _ _ p14.1 in
    record {
      passed = p.0;
      served = not-false _ p5.0;
      ours = not-false _ p6.0;
      closed = not-false _ p7.0;
      spare = p14.0;
      room = ltb-false _ _ p13.0;
      session = sym (ap session_of p13.1);
      written = sym (ap written_by p13.1);
    }

pub record CloseDone (e : Endpoint) (store_len id session out_len : ℕ) (v : Done) : Type 0 where
  pub passed : Passed e store_len
  pub named : Named e id session
  pub alive : is_open (row_for e id).status ≡ true
  pub room : short_length ≤ out_len
  pub written : v.written ≡ short_length

pub close_done : (e : Endpoint) (store_len id session out_len : ℕ) {v : Done} → close_reply e store_len id session out_len ≡ Ok v → CloseDone e store_len id session out_len v
unfolding close_reply
close_done e store_len id session out_len d =
    let p = ready_done e store_len _ d in
    let n = named_done e id session _ p.1 in
    let p9 = passed _ _ _ n.1 in
    let p13 = passed _ _ _ p9.1 in
    record { passed = p.0; named = n.0; alive = not-false _ p9.0; room = ltb-false _ _ p13.0; written = sym (ap written_by p13.1) }

pub record RequestDone (e : Endpoint) (store_len id session amount out_len : ℕ) (v : Done) : Type 0 where
  pub passed : Passed e store_len
  pub named : Named e id session
  pub alive : is_open (row_for e id).status ≡ true
  pub some : amount ≡ 0 → ⊥
  pub fits : (row_for e id).unread + (row_for e id).input + amount ≤ row_length
  pub room : long_length ≤ out_len
  pub written : v.written ≡ long_length

pub request_done : (e : Endpoint) (store_len id session amount out_len : ℕ) {v : Done} → request_reply e store_len id session amount out_len ≡ Ok v → RequestDone e store_len id session amount out_len v
unfolding request_reply
request_done e store_len id session amount out_len d =
    let p = ready_done e store_len _ d in
    let n = named_done e id session _ p.1 in
    let p9 = passed _ _ _ n.1 in
    let p10 = passed _ _ _ p9.1 in
    let p11 = passed _ _ _ p10.1 in
    let p13 = passed _ _ _ p11.1 in
    record {
      passed = p.0;
      named = n.0;
      alive = not-false _ p9.0;
      some = eqb-false _ _ p10.0;
      fits = ltb-false _ _ p11.0;
      room = ltb-false _ _ p13.0;
      written = sym (ap written_by p13.1);
    }

pub record TransmitDone (e : Endpoint) (store_len id session data_len out_len : ℕ) (v : Done) : Type 0 where
  pub passed : Passed e store_len
  pub named : Named e id session
  pub alive : is_open (row_for e id).status ≡ true
  pub some : data_len ≡ 0 → ⊥
  pub granted : data_len ≤ (row_for e id).output
  pub room : long_length + data_len ≤ out_len
  pub written : v.written ≡ long_length + data_len

pub transmit_done : (e : Endpoint) (store_len id session data_len out_len : ℕ) {v : Done} → transmit_reply e store_len id session data_len out_len ≡ Ok v → TransmitDone e store_len id session data_len out_len v
unfolding transmit_reply
transmit_done e store_len id session data_len out_len d =
    let p = ready_done e store_len _ d in
    let n = named_done e id session _ p.1 in
    let p9 = passed _ _ _ n.1 in
    let p10 = passed _ _ _ p9.1 in
    let p12 = passed _ _ _ p10.1 in
    let p13 = passed _ _ _ p12.1 in
    record {
      passed = p.0;
      named = n.0;
      alive = not-false _ p9.0;
      some = eqb-false _ _ p10.0;
      granted = ltb-false _ _ p12.0;
      room = ltb-false _ _ p13.0;
      written = sym (ap written_by p13.1);
    }

pub record ReadDone (e : Endpoint) (store_len id session out_len : ℕ) (v : Done) : Type 0 where
  pub whole : store_len ≡ store_length
  pub rules : Rules e ≡ true
  pub named : Named e id session
  pub written : v.written ≡ min (row_for e id).unread out_len

pub read_done : (e : Endpoint) (store_len id session out_len : ℕ) {v : Done} → read_reply e store_len id session out_len ≡ Ok v → ReadDone e store_len id session out_len v
unfolding read_reply
read_done e store_len id session out_len d =
    let p = checked_done e store_len _ d in
    let n = named_done e id session _ p.2 in
    record { whole = p.0; rules = p.1; named = n.0; written = sym (ap written_by n.1) }

-- ---- a test with what follows it, by the test alone: so what `refuse`, `checked`, `ready` and `named` answer where nothing follows says what they answer before anything

-- what follows, where nothing is refused
abbrev pub and_then : {A : Type 0} → Result Unit Refusal → Result A Refusal → Result A Refusal
and_then (Ok u) rest = rest
and_then (Err why) rest = Err why

pub refuse_then : {A : Type 0} (why : Refusal) (t : Bool) (test : Result Unit Refusal) (rest : Result A Refusal)
    → refuse why t (and_then test rest) ≡ and_then (refuse why t test) rest
unfolding refuse
refuse_then why true test rest = refl
refuse_then why false test rest = refl

checked_over : {A : Type 0} (e : Endpoint) (store_len : ℕ) (test : Result Unit Refusal) (rest : Result A Refusal)
    → checked e store_len (and_then test rest) ≡ and_then (checked e store_len test) rest
unfolding checked
checked_over e store_len test rest = ap (refuse _ _) (refuse_then _ _ test rest) ∙ refuse_then _ _ (refuse _ _ test) rest

pub checked_then : {A : Type 0} (e : Endpoint) (store_len : ℕ) (rest : Result A Refusal) → checked e store_len rest ≡ and_then (checked e store_len (Ok tt)) rest
unfolding checked
checked_then e store_len rest = checked_over e store_len (Ok tt) rest

pub ready_then : {A : Type 0} (e : Endpoint) (store_len : ℕ) (rest : Result A Refusal) → ready e store_len rest ≡ and_then (ready e store_len (Ok tt)) rest
unfolding ready
ready_then e store_len rest = ap (checked e store_len) (refuse_then _ e.down (Ok tt) rest) ∙ checked_over e store_len (refuse _ e.down (Ok tt)) rest

pub named_then : {A : Type 0} (e : Endpoint) (id session : ℕ) (rest : Result A Refusal) → named e id session rest ≡ and_then (named e id session (Ok tt)) rest
unfolding named
named_then e id session rest = ap (refuse _ _) (refuse_then _ _ (Ok tt) rest) ∙ refuse_then _ _ (refuse _ _ (Ok tt)) rest
