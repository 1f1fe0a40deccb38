-- Document 01's fourteen cases: one test over the whole table, computed, and the theorem that it gives.
use mathlib.Core.Path.{◌≡◌, refl}
use mathlib.Core.Bool.{Bool, true, ◌&&◌}
use mathlib.Core.List.{List, [], ◌∷◌}
use lib.Dec.{eqb}
use borrow.Author.Tests.{eqb-true}
use Rattle.wire.specs.Numbers.{be_from, be, bytes_of}
use Rattle.wire.specs.Values.{allowed}
use Rattle.wire.specs.Reading.{room, read_bytes, read_number, read_string, read_item, read_items, read_elements, read_list, read_halves, read_xid, read_field, read_fields, read_end}
use Rattle.message_layout.specs.Table.{items_of, entries_of, layout, versions_of}
use Rattle.message_read.specs.Reading.{answer, reading}
use Rattle.message_choice.specs.Choice.{chosen}
use Rattle.link_rows.specs.Rows.{fresh_endpoint, is_served, row_of, opens_half, next_after}
use Rattle.link_rows.specs.Rules.{every, distinct, rules, Rules}
use Rattle.link_rows.specs.Replies.{refuse}
use Rattle.link_replies.specs.Calls.{checked, ready, named, make_reply, close_reply, request_reply, read_reply}
use Rattle.link_record_replies.specs.Records.{head_tests, row_tests, last_tests, seen_reply, receive_reply}
use Rattle.link_changes.specs.Changes.{opened, downed}
use Rattle.link_bytes.specs.Store.{clear_row, queue_data, take_front}
use Rattle.link_bytes.specs.Records.{head_of}
use Rattle.link_calls.specs.Calls.{make_endpoint, make_store, making, close_endpoint, close_store, close_out, closing, request_endpoint, request_out, requesting, read_endpoint, read_store, read_out}
use Rattle.link_calls.specs.Calls as calls
use Rattle.link_receive.specs.Receive.{received_row, receive_endpoint, receive_store, receive_out, receiving}
use Rattle.link_history.specs.Calls.{World, start}
use Rattle.text.specs.Same.{same_bytes}
use Rattle.text.proofs.Equal.{both, same_equal}
use Rattle.cases.specs.Table.{Row, bytes_in, numbers_in, table}
use Rattle.cases.specs.Expected.{Answered, answered, fresh, expected_output, Agrees, AllAgree, FourteenCases}

-- the statement as a test that can be computed
abbrev agrees : Answered → Row → Bool
agrees a r =
    eqb a.number r.number && eqb a.place r.place && eqb a.value r.value && same_bytes a.output (expected_output r)

unfoldable passes : World → List Row → Bool
passes w [] = true
passes w (r ∷ rs) = agrees (answered w r r.deed) r && passes (answered w r r.deed).world rs

-- a row that passes agrees
row-agrees : (a : Answered) (r : Row) → agrees a r ≡ true → Agrees a r
row-agrees a r h =
    let x = both (eqb a.number r.number && eqb a.place r.place && eqb a.value r.value) (same_bytes a.output (expected_output r)) h in
    let y = both (eqb a.number r.number && eqb a.place r.place) (eqb a.value r.value) x.0 in
    let z = both (eqb a.number r.number) (eqb a.place r.place) y.0 in
    record {
      number = eqb-true a.number r.number z.0;
      place = eqb-true a.place r.place z.1;
      value = eqb-true a.value r.value y.1;
      output = same_equal a.output (expected_output r) x.1;
    }

-- rows that pass agree
all_agree_lem : (w : World) (rs : List Row) → passes w rs ≡ true → AllAgree w rs
unfolding passes
all_agree_lem w [] h = tt
all_agree_lem w (r ∷ rs) h =
    let a : Answered = answered w r r.deed in
    let x = both (agrees a r) (passes a.world rs) h in
    (row-agrees a r x.0, all_agree_lem a.world rs x.1)

-- the test, computed
tested : passes fresh table ≡ true
unfolding be_from be bytes_of allowed room read_bytes read_number read_string read_item read_items read_elements read_list read_halves read_xid read_field read_fields read_end items_of entries_of layout versions_of answer reading chosen fresh_endpoint is_served row_of opens_half next_after every distinct rules Rules refuse checked ready named make_reply close_reply request_reply read_reply head_tests row_tests last_tests seen_reply receive_reply opened downed clear_row queue_data take_front head_of make_endpoint make_store making close_endpoint close_store close_out closing request_endpoint request_out requesting read_endpoint read_store read_out calls.reading received_row receive_endpoint receive_store receive_out receiving start bytes_in numbers_in same_bytes passes
tested = refl

pub fourteen_cases : FourteenCases
fourteen_cases = all_agree_lem fresh table tested
