use lib.ListN.{drop}
use Rattle.wire.specs.Numbers.{Bytes}
use Rattle.wire.proofs.Bytes.{bytes_take, bytes_drop}
use Rattle.message_read.proofs.Passing.{behind-header, in_message_lem, passed_stop}
use Rattle.message_explain.proofs.Headers.{explained_before, explained_payload}
use Rattle.message_explain.proofs.explain.Goals as goal

pub slice_bounds-stop_reason-count : goal.slice_bounds-stop_reason-count
slice_bounds-stop_reason-count c = search behind-header

pub slice_bounds-stop_reason-start : goal.slice_bounds-stop_reason-start
slice_bounds-stop_reason-start c = search behind-header

pub slice_bounds-stop_reason-end : goal.slice_bounds-stop_reason-end
slice_bounds-stop_reason-end c = search in_message_lem

pub stop_reason-requires : goal.stop_reason-requires
stop_reason-requires c = let m = c.args.message.now in
    let b : Bytes m = λ j. (c.type_inv.message j).fits in
    let d : Bytes (drop 32 m) = bytes_drop 32 m b in
    record { bytes = search (bytes_take, d); stop_value = search passed_stop }

pub returns-in-Err : goal.returns-in-Err
returns-in-Err c = search explained_before

pub returns-in-Ok : goal.returns-in-Ok
returns-in-Ok c = search explained_payload
