-- `substitution` of demand 3: other sessions' data decides no reply and no output but its own, and nobody's bytes decide none.
use mathlib.Core.Path.{◌≡◌, refl, sym, ap, ◌∙◌}
use mathlib.Core.Bool.{Bool, true, false, cond, true≢false}
use mathlib.Core.List.{List, [], ◌∷◌}
use Prim.Native.Nat.{ℕ}
use native.Mathlib.Nat.{min-le_left}
use native.Mathlib.Omega.{arith}
use lib.ListN.{length, take}
use Rattle.link_rows.specs.Limits.{store_length}
use Rattle.link_rows.specs.Rows.{row_of, row_for, with_row, next_session}
use Rattle.link_rows.specs.declared.Endpoint.{Endpoint}
use Rattle.link_rows.proofs.Laws.{row_room}
use Rattle.link_replies.specs.Calls.{open_reply, close_reply, request_reply, transmit_reply, read_reply}
use Rattle.link_replies.proofs.Done.{open_done, close_done, request_done, transmit_done, read_done}
use Rattle.link_changes.specs.Changes.{opened_row, opened, pending_row, granted_row, spent_row, read_row}
use Rattle.link_changes.specs.Outcome.{Outcome}
use Rattle.link_bytes.specs.Records.{head_of, written}
use Rattle.link_calls.specs.Calls.{open_endpoint, open_store, open_out, close_endpoint, close_store, close_out, request_endpoint, request_out, transmit_endpoint, transmit_out, read_endpoint, read_store, read_out, opening, closing, requesting, transmitting, reading}
use Rattle.link_receive.specs.Receive.{receiving}
use Rattle.link_receive.specs.Run.{Run, running}
use Rattle.link_history.specs.Calls.{Call, Opening, Closing, Requesting, Transmitting, Reading, Receiving, Running, World, Answer, Step, single, several, step, start}
use Rattle.link_history.specs.Ledger.{Ledger, blank, note}
use Rattle.link_history.specs.Statement.{number_in, another, AlikeRecords, AlikeRuns, Alike, same, transmit, receive, run, AlikeLists, none, more, View, view, views}
use Rattle.link_history.proofs.Invariant.{Inv}
use Rattle.link_history.proofs.Answers.{next}
use Rattle.link_history.proofs.History.{start_inv}
use Rattle.link_history.proofs.Agree.{Agree, agree_row, agree_clear, agree_take}
use Rattle.link_history.proofs.Trimmed.{trimmed}
use Rattle.link_history.proofs.Visible.{alike_head, alike_data, runs_same}
use Rattle.link_history.proofs.Twin.{swap, receive_swap, receive_agree}
use Rattle.link_history.proofs.RunTwin.{RunTwin, running_twin}
use Rattle.link_rows.specs.Replies.{Reply}
use Rattle.std.specs.Prelude.{Ok, Err}

-- two steps that show the session s the same, and leave the same endpoint and stores that agree on its rows
pub record Twin (s : ℕ) (c d : Call) (p q : Step) : Type 0 where
  pub seen : view s c p ≡ view s d q
  pub endpoint : p.world.endpoint ≡ q.world.endpoint
  pub agree : Agree s p.world.endpoint p.world.store q.world.store

-- a world
abbrev at : Endpoint → List ℕ → World
at e x = record { endpoint = e; store = x }

-- two outputs, hidden or the same
hide_out : (b : Bool) (n : Answer) (e : Endpoint) (x y : List ℕ) → (b ≡ false → x ≡ y) → ◌≡◌ {A = View} (record { answer = n; endpoint = e; out = cond b [] x }) (record { answer = n; endpoint = e; out = cond b [] y })
hide_out true n e x y h = refl
hide_out false n e x y h = ap {B = View} (λ (z : List ℕ). record { answer = n; endpoint = e; out = z }) (h refl)

module _ (s : ℕ) (l : Ledger) (e : Endpoint) (x y : List ℕ) (i : Inv l e x) (ly : length y ≡ 32768) (a : Agree s e x y) where
  lx : length y ≡ length x
  lx = ly ∙ sym i.whole

  open_twin : (id : ℕ) (out : List ℕ) → Twin s (Opening id out) (Opening id out) (step (at e x) (Opening id out)) (step (at e y) (Opening id out))
  unfolding opening open_endpoint open_store opened
  open_twin id out = rw lx (go (open_reply e (length x) id (length out)) refl)
    where
      go : (r : Reply) → open_reply e (length x) id (length out) ≡ r
          → Twin s (Opening id out) (Opening id out) (single (record { reply = r; endpoint = open_endpoint e id r; store = open_store id r x; out = open_out id r out })) (single (record { reply = r; endpoint = open_endpoint e id r; store = open_store id r y; out = open_out id r out }))
      go (Ok v) q = let d = open_done e (length x) id (length out) q in record { seen = refl; endpoint = refl; agree = agree_clear s e x y i.rows i.whole ly a id d.served (opened_row (next_session e)) (opened e (row_of id)) refl }
      go (Err why) q = record { seen = refl; endpoint = refl; agree = a }

  close_twin : (id n : ℕ) (out : List ℕ) → Twin s (Closing id n out) (Closing id n out) (step (at e x) (Closing id n out)) (step (at e y) (Closing id n out))
  unfolding closing close_endpoint close_store
  close_twin id n out = rw lx (go (close_reply e (length x) id n (length out)) refl)
    where
      go : (r : Reply) → close_reply e (length x) id n (length out) ≡ r
          → Twin s (Closing id n out) (Closing id n out) (single (record { reply = r; endpoint = close_endpoint e id r; store = close_store id r x; out = close_out id r out })) (single (record { reply = r; endpoint = close_endpoint e id r; store = close_store id r y; out = close_out id r out }))
      go (Ok v) q = let d = close_done e (length x) id n (length out) q in record { seen = refl; endpoint = refl; agree = agree_clear s e x y i.rows i.whole ly a id d.named.served (pending_row (row_for e id)) (with_row e (row_of id) (pending_row (row_for e id))) refl }
      go (Err why) q = record { seen = refl; endpoint = refl; agree = a }

  request_twin : (id n amount : ℕ) (out : List ℕ) → Twin s (Requesting id n amount out) (Requesting id n amount out) (step (at e x) (Requesting id n amount out)) (step (at e y) (Requesting id n amount out))
  unfolding requesting request_endpoint
  request_twin id n amount out = rw lx (go (request_reply e (length x) id n amount (length out)) refl)
    where
      go : (r : Reply) → request_reply e (length x) id n amount (length out) ≡ r
          → Twin s (Requesting id n amount out) (Requesting id n amount out) (single (record { reply = r; endpoint = request_endpoint e id amount r; store = x; out = request_out id amount r out })) (single (record { reply = r; endpoint = request_endpoint e id amount r; store = y; out = request_out id amount r out }))
      go (Ok v) q = let d = request_done e (length x) id n amount (length out) q in record { seen = refl; endpoint = refl; agree = agree_row s e x y i.rows i.whole ly a id d.named.served (granted_row (row_for e id) amount) refl }
      go (Err why) q = record { seen = refl; endpoint = refl; agree = a }

  transmit_twin : (id n : ℕ) (b d out : List ℕ) → length b ≡ length d → (another s n ≡ false → b ≡ d)
      → Twin s (Transmitting id n b out) (Transmitting id n d out) (step (at e x) (Transmitting id n b out)) (step (at e y) (Transmitting id n d out))
  unfolding transmitting transmit_endpoint
  transmit_twin id n b d out lb own = rw (lx, ← lb) (go (transmit_reply e (length x) id n (length b) (length out)) refl)
    where
      go : (r : Reply) → transmit_reply e (length x) id n (length b) (length out) ≡ r
          → Twin s (Transmitting id n b out) (Transmitting id n d out) (single (record { reply = r; endpoint = transmit_endpoint e id (length b) r; store = x; out = transmit_out id b r out })) (single (record { reply = r; endpoint = transmit_endpoint e id (length b) r; store = y; out = transmit_out id d r out }))
      go (Ok v) q =
          let c = transmit_done e (length x) id n (length b) (length out) q in
          record {
            seen = hide_out (another s n) _ _ (transmit_out id b (Ok v) out) (transmit_out id d (Ok v) out) (λ o. ap (λ (z : List ℕ). transmit_out id z (Ok v) out) (own o));
            endpoint = refl;
            agree = agree_row s e x y i.rows i.whole ly a id c.named.served (spent_row (row_for e id) (length b)) refl;
          }
      go (Err why) q = record { seen = hide_out (another s n) _ _ (transmit_out id b (Err why) out) (transmit_out id d (Err why) out) (λ o. ap (λ (z : List ℕ). transmit_out id z (Err why) out) (own o)); endpoint = refl; agree = a }

  read_twin : (id n : ℕ) (out : List ℕ) → Twin s (Reading id n out) (Reading id n out) (step (at e x) (Reading id n out)) (step (at e y) (Reading id n out))
  unfolding reading read_endpoint read_store read_out Agree
  read_twin id n out = rw lx (go (read_reply e (length x) id n (length out)) refl)
    where
      go : (r : Reply) → read_reply e (length x) id n (length out) ≡ r
          → Twin s (Reading id n out) (Reading id n out) (single (record { reply = r; endpoint = read_endpoint e id r; store = read_store e id r x; out = read_out id r x out })) (single (record { reply = r; endpoint = read_endpoint e id r; store = read_store e id r y; out = read_out id r y out }))
      go (Ok v) q =
          let c = read_done e (length x) id n (length out) q in
          record {
            seen = hide_out (another s n) _ _ (read_out id (Ok v) x out) (read_out id (Ok v) y out) (λ o. ap (λ (z : List ℕ). written (take v.written z) out) (a id c.named.served (ap (λ (z : ℕ). another s z) (sym c.named.latest) ∙ o)));
            endpoint = refl;
            agree = agree_take s e x y i.rows i.whole ly a id c.named.served (row_for e id).unread v.written (omega (arith, row_room e (row_of id) i.rules)) (omega (arith, c.written, min-le_left (row_for e id).unread (length out))) (read_row (row_for e id) v.written) refl;
          }
      go (Err why) q = record { seen = refl; endpoint = refl; agree = a }

  receive_twin : (b d out : List ℕ) → length b ≡ length d → AlikeRecords s l b d → Twin s (Receiving b out) (Receiving d out) (step (at e x) (Receiving b out)) (step (at e y) (Receiving d out))
  receive_twin b d out lb h =
      let he : trimmed (head_of b) ≡ trimmed (head_of d) = alike_head s l b d lb h in
      let sw : receiving e y d out ≡ swap (receiving e x b out) (receiving e y d out).store = receive_swap e x y b d out he (sym lx) in
      record {
        seen = ap (λ (o : Outcome). view s (Receiving b out) (single o)) (sym sw);
        endpoint = ap (λ (o : Outcome). o.endpoint) (sym sw);
        agree = receive_agree e x y b d out he s l i ly a lb (alike_data s l b d lb h);
      }

  run_twin : (n : ℕ) (b d out : List ℕ) → length b ≡ length d → AlikeRuns s l (step (at e x) (Running n b out)).answer.accepted (number_in (step (at e x) (Running n b out))) b d
      → Twin s (Running n b out) (Running n d out) (step (at e x) (Running n b out)) (step (at e y) (Running n d out))
  run_twin n b d out lb h =
      let t = running_twin s n l e x y b d out i ly a lb h in
      record {
        seen = ap (λ (o : Run). view s (Running n b out) (several o)) (sym t.same);
        endpoint = ap (λ (o : Run). o.endpoint) (sym t.same);
        agree = ap_store t;
      }
    where
      ap_store : RunTwin s (running n e x b out) (running n e y d out) → Agree s (running n e x b out).endpoint (running n e x b out).store (running n e y d out).store
      ap_store t = rw (ap (λ (o : Run). o.store) t.same) t.agree

  alike_same : (c : Call) → Twin s c c (step (at e x) c) (step (at e y) c)
  alike_same (Opening id out) = open_twin id out
  alike_same (Closing id n out) = close_twin id n out
  alike_same (Requesting id n amount out) = request_twin id n amount out
  alike_same (Transmitting id n b out) = transmit_twin id n b b out refl (λ o. refl)
  alike_same (Reading id n out) = read_twin id n out
  alike_same (Receiving b out) = receive_twin b b out refl refl
  alike_same (Running n b out) = run_twin n b b out refl (runs_same s (step (at e x) (Running n b out)).answer.accepted l (number_in (step (at e x) (Running n b out))) b)

  twin : (c d : Call) (number accepted : ℕ) → number ≡ number_in (step (at e x) c) → accepted ≡ (step (at e x) c).answer.accepted → Alike s l number accepted c d → Twin s c d (step (at e x) c) (step (at e y) d)
  twin _ _ number accepted nn na (same c) = alike_same c
  twin _ _ number accepted nn na (transmit id n b d out o lb) = transmit_twin id n b d out lb (λ q. absurd (true≢false (sym o ∙ q)))
  twin _ _ number accepted nn na (receive b d out lb h) = receive_twin b d out lb h
  twin _ _ number accepted nn na (run n b d out lb h) = run_twin n b d out lb (rw (nn, na) at h)

-- lists of calls
lists : (s : ℕ) (cs ds : List Call) (l m : Ledger) (e : Endpoint) (x y : List ℕ) → Inv l e x → Inv m e y → Agree s e x y → AlikeLists s (at e x) l cs ds → views s (at e x) cs ≡ views s (at e y) ds
unfolding views
lists s _ _ l m e x y i j a (none _ _) = refl
lists s _ _ l m e x y i j a (more _ _ c d cs ds h r) =
    let t : Twin s c d (step (at e x) c) (step (at e y) d) = twin s l e x y i j.whole a c d (number_in (step (at e x) c)) (step (at e x) c).answer.accepted refl refl h in
    let k : Inv (note (at e y) d m) (step (at e x) c).world.endpoint (step (at e y) d).world.store = rw t.endpoint (next m (at e y) j d).inv in
    let later : views s (step (at e x) c).world cs ≡ views s (at (step (at e x) c).world.endpoint (step (at e y) d).world.store) ds
    = lists s cs ds (note (at e x) c l) (note (at e y) d m) (step (at e x) c).world.endpoint (step (at e x) c).world.store (step (at e y) d).world.store (next l (at e x) i c).inv k t.agree r in
    ap (λ (q : View). q ∷ views s (step (at e x) c).world cs) t.seen
    ∙ ap (λ (q : List View). view s d (step (at e y) d) ∷ q) (later ∙ ap (λ (z : Endpoint). views s (at z (step (at e y) d).world.store) ds) t.endpoint)

pub substitution : (began : Bool) (store : List ℕ) → length store ≡ store_length → (s : ℕ) (cs ds : List Call) → AlikeLists s (start began store) blank cs ds → views s (start began store) cs ≡ views s (start began store) ds
unfolding Agree
substitution began store l s cs ds h =
    let i : Inv blank (start began store).endpoint (start began store).store = start_inv began store l in
    lists s cs ds blank blank (start began store).endpoint (start began store).store (start began store).store i i (λ id sv n. refl) h
