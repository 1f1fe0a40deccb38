-- Every call of a list: the later ledger shows the later endpoint and store, the bytes that leave the ledger are those that the
-- read gives, and the reply names the ledger's session number.
use mathlib.Core.Path.{◌≡◌, refl, sym, ap, ◌∙◌}
use mathlib.Core.Bool.{Bool, true, false, cond, ◌&&◌}
use mathlib.Core.List.{List, [], ◌++◌, append-nil}
use Prim.Native.Nat.{ℕ, ◌+◌, ◌≤◌, min}
use native.Mathlib.Nat.{min-le_left}
use native.Mathlib.Omega.{arith}
use borrow.Author.Tests.{eqb-true, eqb-false, eq-eqb, ne_eqb}
use lib.Dec.{eqb}
use lib.ListN.{length, take, drop}
use lib.Seq.{length-take-le, take_at}
use Rattle.link_rows.specs.Limits.{OPEN}
use Rattle.link_rows.specs.Rows.{is_served, row_of, row_for, is_spent, next_session}
use Rattle.link_rows.specs.Rules.{Rules}
use Rattle.link_rows.specs.Replies.{refuse, number_of, session_of, Reply}
use Rattle.link_rows.specs.declared.Endpoint.{Endpoint}
use Rattle.link_rows.specs.declared.Record.{Record}
use Rattle.link_rows.specs.declared.Refusal.{Refusal}
use Rattle.link_rows.proofs.Laws.{and_false}
use Rattle.link_replies.specs.Calls.{checked, ready, named, open_reply, close_reply, request_reply, transmit_reply, read_reply}
use Rattle.link_record_replies.specs.Records.{is, receive_reply}
use Rattle.link_replies.proofs.Done.{open_done, close_done, request_done, transmit_done, read_done}
use Rattle.link_changes.proofs.Kept.{next-is}
use Rattle.link_bytes.specs.Records.{head_of, written}
use Rattle.link_bytes.specs.Store.{row_bytes, front_of}
use Rattle.link_bytes.proofs.Lens.{given_unread}
use Rattle.link_calls.specs.Calls.{open_endpoint, open_store, open_out, close_endpoint, close_store, close_out, request_endpoint, request_out, transmit_endpoint, transmit_out, read_endpoint, read_store, read_out, opening, closing, requesting, transmitting, reading}
use Rattle.link_calls.proofs.Kept.{close_keeps, request_keeps, transmit_keeps, read_keeps}
use Rattle.link_receive.specs.Receive.{receiving}
use Rattle.link_receive.proofs.Taken.{receive_done}
use Rattle.link_history.specs.Calls.{Call, Opening, Closing, Requesting, Transmitting, Reading, Receiving, Running, World, Step, single, step}
use Rattle.link_history.specs.Ledger.{Account, Ledger, drops, leaves, asks, spends, change, opens, closes, requests, transmits, reads, if_done, note}
use Rattle.link_history.specs.Statement.{number_in, gives, names}
use Rattle.link_history.proofs.Invariant.{RowOk, Inv}
use Rattle.link_history.proofs.Steps.{opens_inv, closes_inv, requests_inv, transmits_inv, reads_inv, row-size, unread_fits, unread_length}
use Rattle.link_history.proofs.Receive.{refused, left_kept, receive_kept}
use Rattle.link_history.proofs.Run.{run_kept}
use Rattle.std.specs.Prelude.{Ok, Err}

pub record Next (l : Ledger) (c : Call) (r : Step) (l' : Ledger) : Type 0 where
  pub inv : Inv l' r.world.endpoint r.world.store
  pub left : (s : ℕ) → (l'.account s).left ≡ (l.account s).left ++ gives s c r
  pub named : session_of r.answer.reply ≡ names l.table c (number_in r)

-- the replies to calls other than openings name no session
quiet : (why : Refusal) (t : Bool) (rest : Reply) → session_of rest ≡ 0 → session_of (refuse why t rest) ≡ 0
unfolding refuse
quiet why true rest h = refl
quiet why false rest h = h

checked_quiet : (e : Endpoint) (n : ℕ) (rest : Reply) → session_of rest ≡ 0 → session_of (checked e n rest) ≡ 0
unfolding checked
checked_quiet e n rest h = quiet _ _ _ (quiet _ _ _ h)

ready_quiet : (e : Endpoint) (n : ℕ) (rest : Reply) → session_of rest ≡ 0 → session_of (ready e n rest) ≡ 0
unfolding ready
ready_quiet e n rest h = checked_quiet e n _ (quiet _ _ _ h)

named_quiet : (e : Endpoint) (id s : ℕ) (rest : Reply) → session_of rest ≡ 0 → session_of (named e id s rest) ≡ 0
unfolding named
named_quiet e id s rest h = quiet _ _ _ (quiet _ _ _ h)

module _ (e : Endpoint) (n id s k : ℕ) where
  close_quiet : session_of (close_reply e n id s k) ≡ 0
  unfolding close_reply
  close_quiet = ready_quiet e n _ (named_quiet e id s _ (quiet _ _ _ (quiet _ _ _ refl)))

  request_quiet : (amount : ℕ) → session_of (request_reply e n id s amount k) ≡ 0
  unfolding request_reply
  request_quiet amount = ready_quiet e n _ (named_quiet e id s _ (quiet _ _ _ (quiet _ _ _ (quiet _ _ _ (quiet _ _ _ refl)))))

  transmit_quiet : (m : ℕ) → session_of (transmit_reply e n id s m k) ≡ 0
  unfolding transmit_reply
  transmit_quiet m = ready_quiet e n _ (named_quiet e id s _ (quiet _ _ _ (quiet _ _ _ (quiet _ _ _ (quiet _ _ _ refl)))))

  read_quiet : session_of (read_reply e n id s k) ≡ 0
  unfolding read_reply
  read_quiet = checked_quiet e n _ (named_quiet e id s _ refl)

module _ (l : Ledger) (w : World) (i : Inv l w.endpoint w.store) where
  -- no byte left by a read
  same_left : (s : ℕ) → (l.account s).left ≡ (l.account s).left ++ []
  same_left s = sym (append-nil (l.account s).left)

  kept_left : (n : ℕ) (f : Account → Account) → ((a : Account) → (f a).left ≡ a.left) → (s : ℕ) → (change l n f s).left ≡ (l.account s).left ++ []
  kept_left n f h s = left_kept l n f h s ∙ same_left s

  opens_left : (id s : ℕ) → ((opens id l).account s).left ≡ (l.account s).left ++ []
  unfolding opens
  opens_left id = kept_left (l.table.latest id) drops (λ a. refl)

  closes_left : (id n s : ℕ) → ((closes id n l).account s).left ≡ (l.account s).left ++ []
  unfolding closes
  closes_left id n = kept_left n drops (λ a. refl)

  requests_left : (n amount s : ℕ) → ((requests n amount l).account s).left ≡ (l.account s).left ++ []
  unfolding requests
  requests_left n amount = kept_left n (asks amount) (λ a. refl)

  transmits_left : (n k s : ℕ) → ((transmits n k l).account s).left ≡ (l.account s).left ++ []
  unfolding transmits
  transmits_left n k = kept_left n (spends k) (λ a. refl)

  open_next : (id : ℕ) (out : List ℕ) → Next l (Opening id out) (step w (Opening id out)) (note w (Opening id out) l)
  unfolding opening open_endpoint open_store
  open_next id out = go (open_reply w.endpoint (length w.store) id (length out)) refl
    where
      go : (r : Reply) → open_reply w.endpoint (length w.store) id (length out) ≡ r
          → Next l (Opening id out) (single (record { reply = r; endpoint = open_endpoint w.endpoint id r; store = open_store id r w.store; out = open_out id r out })) (if_done (number_of r) (opens id) l)
      go (Ok v) q =
          let d = open_done w.endpoint (length w.store) id (length out) q in
          record {
            inv = opens_inv i id d.served d.spare d.passed.up;
            left = opens_left id;
            named = d.session ∙ next-is w.endpoint d.spare ∙ ap (λ (n : ℕ). n + 1) i.last;
          }
      go (Err why) q = rw (refused why) (record { inv = i; left = same_left; named = rw (refused why) refl })

  close_next : (id n : ℕ) (out : List ℕ) → Next l (Closing id n out) (step w (Closing id n out)) (note w (Closing id n out) l)
  unfolding closing close_endpoint close_store
  close_next id n out = go (close_reply w.endpoint (length w.store) id n (length out)) refl (close_keeps w.endpoint i.rules w.store id out n) (close_quiet w.endpoint (length w.store) id n (length out))
    where
      go : (r : Reply) → close_reply w.endpoint (length w.store) id n (length out) ≡ r → Rules (close_endpoint w.endpoint id r) ≡ true → session_of r ≡ 0
          → Next l (Closing id n out) (single (record { reply = r; endpoint = close_endpoint w.endpoint id r; store = close_store id r w.store; out = close_out id r out })) (if_done (number_of r) (closes id n) l)
      go (Ok v) q ru z =
          let d = close_done w.endpoint (length w.store) id n (length out) q in
          record { inv = closes_inv i id d.named.served n d.named.latest d.named.some d.alive ru; left = closes_left id n; named = z }
      go (Err why) q ru z = rw (refused why) (record { inv = i; left = same_left; named = refl })

  request_next : (id n amount : ℕ) (out : List ℕ) → Next l (Requesting id n amount out) (step w (Requesting id n amount out)) (note w (Requesting id n amount out) l)
  unfolding requesting request_endpoint
  request_next id n amount out = go (request_reply w.endpoint (length w.store) id n amount (length out)) refl (request_keeps w.endpoint i.rules w.store id out n amount) (request_quiet w.endpoint (length w.store) id n (length out) amount)
    where
      go : (r : Reply) → request_reply w.endpoint (length w.store) id n amount (length out) ≡ r → Rules (request_endpoint w.endpoint id amount r) ≡ true → session_of r ≡ 0
          → Next l (Requesting id n amount out) (single (record { reply = r; endpoint = request_endpoint w.endpoint id amount r; store = w.store; out = request_out id amount r out })) (if_done (number_of r) (requests n amount) l)
      go (Ok v) q ru z =
          let d = request_done w.endpoint (length w.store) id n amount (length out) q in
          record { inv = requests_inv i id d.named.served n amount d.named.latest d.named.some ru; left = requests_left n amount; named = z }
      go (Err why) q ru z = rw (refused why) (record { inv = i; left = same_left; named = refl })

  transmit_next : (id n : ℕ) (bytes out : List ℕ) → Next l (Transmitting id n bytes out) (step w (Transmitting id n bytes out)) (note w (Transmitting id n bytes out) l)
  unfolding transmitting transmit_endpoint
  transmit_next id n bytes out = go (transmit_reply w.endpoint (length w.store) id n (length bytes) (length out)) refl (transmit_keeps w.endpoint i.rules w.store id out n bytes) (transmit_quiet w.endpoint (length w.store) id n (length out) (length bytes))
    where
      go : (r : Reply) → transmit_reply w.endpoint (length w.store) id n (length bytes) (length out) ≡ r → Rules (transmit_endpoint w.endpoint id (length bytes) r) ≡ true → session_of r ≡ 0
          → Next l (Transmitting id n bytes out) (single (record { reply = r; endpoint = transmit_endpoint w.endpoint id (length bytes) r; store = w.store; out = transmit_out id bytes r out })) (if_done (number_of r) (transmits n (length bytes)) l)
      go (Ok v) q ru z =
          let d = transmit_done w.endpoint (length w.store) id n (length bytes) (length out) q in
          record { inv = transmits_inv i id d.named.served n (length bytes) d.named.latest d.named.some d.granted ru; left = transmits_left n (length bytes); named = z }
      go (Err why) q ru z = rw (refused why) (record { inv = i; left = same_left; named = refl })

  -- the bytes that leave the ledger are those that the read puts into its output
  read_gives : (id n : ℕ) (out : List ℕ) (k : ℕ) → is_served id ≡ true → n ≡ (row_for w.endpoint id).session → k ≡ min (row_for w.endpoint id).unread (length out)
      → take (min (length (l.account n).unread) (length out)) (l.account n).unread ≡ take k (written (front_of w.store (row_of id) k) out)
  read_gives id n out k sv m kk =
      let r : RowOk l id (row_for w.endpoint id) (row_bytes w.store (row_of id)) = i.each id sv in
      let u : ℕ = (row_for w.endpoint id).unread in
      let ku : k ≤ (row_for w.endpoint id).unread = omega (arith, min-le_left (row_for w.endpoint id).unread (length out)) in
      let rl : length (row_bytes w.store (row_of id)) ≡ 1024 = row-size i id sv in
      let uf : (row_for w.endpoint id).unread ≤ 1024 = unread_fits i id sv in
      let same : min (length (l.account n).unread) (length out) ≡ k = ap (λ (y : ℕ). min y (length out)) (ap (λ (s : ℕ). length (l.account s).unread) m ∙ unread_length i id sv) ∙ sym kk in
      let lf : length (front_of w.store (row_of id) k) ≡ k = length-take-le k (row_bytes w.store (row_of id)) (omega arith) in
      ap (λ (y : ℕ). take y (l.account n).unread) same
      ∙ ap (λ (s : ℕ). take k (l.account s).unread) m
      ∙ ap (take k) (sym r.unread)
      ∙ sym (given_unread (row_bytes w.store (row_of id)) rl (row_for w.endpoint id).unread uf k ku)
      ∙ sym (take_at (front_of w.store (row_of id) k) (drop (length (front_of w.store (row_of id) k)) out) k lf)

  reads_left : (n k : ℕ) (x : List ℕ) → take (min (length (l.account n).unread) k) (l.account n).unread ≡ x → (s : ℕ) → ((reads n k l).account s).left ≡ (l.account s).left ++ cond (eqb n s) x []
  unfolding reads
  reads_left n k x h s = go (eqb s n) refl
    where
      go : (b : Bool) → eqb s n ≡ b → (cond b (leaves (min (length (l.account n).unread) k) (l.account n)) (l.account s)).left ≡ (l.account s).left ++ cond (eqb n s) x []
      go true q = let m : s ≡ n = eqb-true s n q in rw (m, eq-eqb n n refl) (ap (λ (y : List ℕ). (l.account n).left ++ y) h)
      go false q = rw (ne_eqb n s (λ m. eqb-false s n q (sym m))) (same_left s)

  nothing : (b : Bool) (out : List ℕ) (s : ℕ) → (l.account s).left ≡ (l.account s).left ++ cond b (take 0 out) []
  nothing true out s = same_left s
  nothing false out s = same_left s

  read_next : (id n : ℕ) (out : List ℕ) → Next l (Reading id n out) (step w (Reading id n out)) (note w (Reading id n out) l)
  unfolding reading read_endpoint read_store read_out
  read_next id n out = go (read_reply w.endpoint (length w.store) id n (length out)) refl (read_keeps w.endpoint i.rules w.store id out n) (read_quiet w.endpoint (length w.store) id n (length out))
    where
      go : (r : Reply) → read_reply w.endpoint (length w.store) id n (length out) ≡ r → Rules (read_endpoint w.endpoint id r) ≡ true → session_of r ≡ 0
          → Next l (Reading id n out) (single (record { reply = r; endpoint = read_endpoint w.endpoint id r; store = read_store w.endpoint id r w.store; out = read_out id r w.store out })) (if_done (number_of r) (reads n (length out)) l)
      go (Ok v) q ru z =
          let d = read_done w.endpoint (length w.store) id n (length out) q in
          record {
            inv = reads_inv i id d.named.served n (length out) v.written d.named.latest d.named.some d.written ru;
            left = reads_left n (length out) (take v.written (written (front_of w.store (row_of id) v.written) out)) (read_gives id n out v.written d.named.served d.named.latest d.written);
            named = z;
          }
      go (Err why) q ru z = rw (refused why) (record { inv = i; left = λ s. nothing (eqb n s) out s; named = refl })

  receive_named : (h : Record) (n : ℕ) → session_of (receive_reply w.endpoint (length w.store) h n) ≡ cond (eqb (number_of (receive_reply w.endpoint (length w.store) h n)) 0 && is OPEN h) (l.table.last + 1) 0
  receive_named h n = go (receive_reply w.endpoint (length w.store) h n) refl
    where
      opens-next : (b : Bool) → is OPEN h ≡ b → (is OPEN h && is_spent w.endpoint) ≡ false → cond b (next_session w.endpoint) 0 ≡ cond b (l.table.last + 1) 0
      opens-next true o sp = next-is w.endpoint (and_false (is OPEN h) (is_spent w.endpoint) sp o) ∙ ap (λ (n : ℕ). n + 1) i.last
      opens-next false o sp = refl

      go : (r : Reply) → receive_reply w.endpoint (length w.store) h n ≡ r → session_of r ≡ cond (eqb (number_of r) 0 && is OPEN h) (l.table.last + 1) 0
      go (Ok v) q = let d = receive_done w.endpoint (length w.store) h n q in d.1.session ∙ opens-next (is OPEN h) refl d.1.spare
      go (Err why) q = rw (refused why) refl

  receive_next : (bytes out : List ℕ) → Next l (Receiving bytes out) (step w (Receiving bytes out)) (note w (Receiving bytes out) l)
  unfolding receiving
  receive_next bytes out =
      let k = receive_kept i bytes out in
      record { inv = k.inv; left = λ s. k.left s ∙ same_left s; named = receive_named (head_of bytes) (length out) }

  run_next : (n : ℕ) (bytes out : List ℕ) → Next l (Running n bytes out) (step w (Running n bytes out)) (note w (Running n bytes out) l)
  run_next n bytes out =
      let k = run_kept i n bytes out in
      record { inv = k.kept.inv; left = λ s. k.kept.left s ∙ same_left s; named = k.silent }

  pub next : (c : Call) → Next l c (step w c) (note w c l)
  next (Opening id out) = open_next id out
  next (Closing id session out) = close_next id session out
  next (Requesting id session amount out) = request_next id session amount out
  next (Transmitting id session bytes out) = transmit_next id session bytes out
  next (Reading id session out) = read_next id session out
  next (Receiving bytes out) = receive_next bytes out
  next (Running n bytes out) = run_next n bytes out
