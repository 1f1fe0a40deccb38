-- What the writer does: the size is counted on an empty output, the answer decided, and the message put.
use Prim.Native.Nat.{ℕ, ◌+◌, ◌≤◌, ◌<◌}
use native.Mathlib.Nat.{zero-add}
use native.Mathlib.Decide.{dec_le}
use native.Mathlib.Omega.{arith}
use mathlib.Core.Path.{◌≡◌, refl, sym, ap, ◌∙◌}
use mathlib.Core.Bool.{Bool}
use mathlib.Core.List.{List, [], ◌∷◌, ◌++◌}
use lib.ListN.{length, take, drop}
use borrow.Author.Tests.{lt-ltb}
use Rattle.wire.specs.declared.Fault.{Fault}
use Rattle.message_layout.specs.Message.{payload, bytes_of_message, header_size, size_most}
use Rattle.message_put.specs.Puts.{last_place, after, put_at, Put}
use Rattle.message_put.proofs.Chain.{then, same_length, after-length, after_last, put_fits}
use Rattle.message_verdict.specs.Writing.{Written, agreeing, allowing, verdict, writing, written}
use Rattle.message_lent.specs.Requests.{Request, message, header_of}
use Rattle.std.specs.Prelude.{Ok, Err}
use Rattle.message_verdict.proofs.Verdict.{Passed, success as passed, message-length}

-- a size that the largest number bounds is as good as the true one
large : (v t : ℕ) (a b : Bool) (m n room : ℕ) → size_most < m → size_most < n → verdict v t a b m room ≡ verdict v t a b n room
unfolding verdict
large v t a b m n room h k = simp (lt-ltb size_most m h, lt-ltb size_most n k)

-- from 0 on a place is a number of bytes, where there are no more than places
counts : (x : List ℕ) → length x ≤ last_place → after 0 x ≡ length x
counts x h = after-length 0 x (omega arith) ∙ omega arith

counted : (v t : ℕ) (a b : Bool) (x : List ℕ) (room : ℕ) → verdict v t a b (after 0 x) room ≡ verdict v t a b (length x) room
counted v t a b x room = go (dec_le (length x) last_place)
  where
    go : Dec (length x ≤ last_place) → verdict v t a b (after 0 x) room ≡ verdict v t a b (length x) room
    go (yes h) = rw (counts x h)
    go (no h) =
        let e : after 0 x ≡ last_place = after_last 0 x (omega arith) (omega arith) in
        rw e (large v t a b last_place (length x) room (omega arith) (omega arith))

empty : (l : List ℕ) → length l ≡ 0 → l ≡ []
empty [] h = refl
empty (x ∷ l) h = absurd (omega arith)

front_put : (out x : List ℕ) → length x ≤ last_place → length x ≤ length out → put_at out 0 x ≡ x ++ drop (length x) out
front_put out x h k = rw zero-add at (put_fits out 0 x (omega arith) (omega arith))

-- a dry run changes nothing
nothing : (out part : List ℕ) {x : List ℕ} {n : ℕ} → Put x (take 0 out) 0 part n → part ++ out ≡ out
nothing out part dry = ap (λ (l : List ℕ). l ++ out) (empty part (same_length dry))

-- ---- the answer, and what the output holds: the request is q, and its payload was counted

module _ (v : ℕ) (q : Request) (out part : List ℕ) (size k : ℕ) (kind : k ≡ q.kind) (dry : Put (payload (message q)) (take 0 out) 0 part size) where
  -- the answer is the specification's, where the tests of 48 and 45 answered so
  decided : {agree allowed : Bool} {answer : Written} → agree ≡ agreeing q → allowed ≡ allowing q
      → answer ≡ verdict v k agree allowed size (length (part ++ out)) → answer ≡ writing v q (length out)
  unfolding writing
  decided ea eb ej =
      ej ∙ rw (nothing out part dry, ea, eb, kind, dry.place) (counted v q.kind (agreeing q) (allowing q) (payload (message q)) (length out))

  -- a refusal: nothing was put
  pub refused : {agree allowed : Bool} {answer result : Written} (f : Fault) → agree ≡ agreeing q → allowed ≡ allowing q
      → answer ≡ verdict v k agree allowed size (length (part ++ out)) → answer ≡ Err f → result ≡ Err f
      → (result ≡ writing v q (length out)) × (part ++ out ≡ written v q out)
  unfolding written
  refused f ea eb ej is same =
      let a = decided ea eb ej in
      (same ∙ sym is ∙ a, rw (← a, is) (nothing out part dry))

  -- a success: the header and the payload were put
  pub done : {agree allowed : Bool} {answer : Written} (n h : ℕ) (c : List ℕ) {rest w : List ℕ} {place end : ℕ} → agree ≡ agreeing q → allowed ≡ allowing q
      → answer ≡ verdict v k agree allowed size (length (part ++ out)) → answer ≡ Ok n → h ≡ q.kind → c ≡ q.correlation
      → Put (header_of h c size) (part ++ out) 0 rest place → Put (payload (message q)) rest place w end
      → (◌≡◌ {A = Written} (Ok n) (writing v q (length out))) × (w ≡ written v q out)
  unfolding written writing bytes_of_message
  done n h c {rest} {w} {place} {end} ea eb ej is eh ec head body =
      let a = sym is ∙ decided ea eb ej in
      let x : List ℕ = payload (message q) in
      let m : List ℕ = bytes_of_message (message q) in
      let s : Passed v q.kind (agreeing q) (allowing q) (length x) (length out) n = passed v q.kind (agreeing q) (allowing q) (length x) (length out) n (sym a) in
      let e : size ≡ length x = dry.place ∙ counts x (omega (arith, s.small)) in
      let l : length m ≡ header_size + length x = message-length q s.agrees in
      let front : Put (header_of q.kind q.correlation (length x)) (part ++ out) 0 rest place = rw (eh, ec, e) at head in
      let whole : w ≡ put_at out 0 m = rw (nothing out part dry) at (then front body).bytes in
      let u : n ≡ length m = omega (arith, s.used, l) in
      (a, rw (← a, u) (whole ∙ front_put out m (omega (arith, s.small)) (omega (arith, s.fits))))
