-- What a reply 0 to a received record gives the functions that do what it says.
use mathlib.Core.Path.{◌≡◌, refl}
use mathlib.Core.Bool.{Bool, true, false, cond, ◌&&◌}
use mathlib.Core.List.{List}
use Prim.Native.Nat.{ℕ}
use borrow.Author.Tests.{ltb-false}
use lib.Dec.{ltb}
use lib.ListN.{length}
use Rattle.link_rows.specs.Rows.{row_for}
use Rattle.link_rows.specs.declared.Endpoint.{Endpoint}
use Rattle.link_rows.specs.declared.Record.{Record}
use Rattle.link_record_replies.specs.Records.{receive_reply, record_reply}
use Rattle.link_replies.proofs.Done.{Passed, ready_done}
use Rattle.link_record_replies.proofs.Done.{Received, record_done}
use Rattle.link_bytes.specs.Records.{written, fitted}
use Rattle.link_bytes.proofs.Lent.{fitted-is}
use Rattle.link_receive.specs.Inner.{Fits}
use Rattle.link_rows.specs.declared.Done.{Done}
use Rattle.std.specs.Prelude.{Ok}

pub receive_done : (e : Endpoint) (store_len : ℕ) (h : Record) (out_len : ℕ) {v : Done} → receive_reply e store_len h out_len ≡ Ok v → Passed e store_len × Received e h out_len v
unfolding receive_reply
receive_done e store_len h out_len d =
    let p = ready_done e store_len (record_reply e h out_len) d in
    (p.0, record_done e h out_len p.1)

pub fits : {e : Endpoint} {h : Record} {out_len : ℕ} {v : Done} → Received e h out_len v → Fits (row_for e h.id) h
fits d = record { granted = d.granted; credit = d.credit; queue = d.queue }

-- an answer is written where one is due, since there is room
pub acked_out : (due : Bool) (bytes out : List ℕ) → (due && ltb (length out) (length bytes)) ≡ false → cond due (fitted bytes out) out ≡ cond due (written bytes out) out
acked_out true bytes out e = fitted-is bytes out (ltb-false _ _ e)
acked_out false bytes out e = refl
