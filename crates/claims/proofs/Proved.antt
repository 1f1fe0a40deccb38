-- The claims are proved: each by the theorems of the crates below.
use Prim.Native.Nat.{ℕ}
use Rattle.message_read.proofs.Exact.{exactly_when, accepted_valid, valid_read_back}
use Rattle.message_round_trip.proofs.RoundTrip.{read_rewritten}
use Rattle.message_round_trip.proofs.Every.{every_writer}
use Rattle.link_history.proofs.NoCrossing.{no_crossing}
use Rattle.cases.proofs.Fourteen.{fourteen_cases}
use Rattle.claims.specs.Claims.{Total, ExactMessages, Claims}
use Rattle.claims.proofs.Refusals.{reading_refused, writing_refused, call_refused, make_refused, run_refused}
use Rattle.claims.proofs.Messages.{exact_tests, exact_values, exact_numbers, answered_parts, exact_places, reads_back}
use Rattle.claims.proofs.Effects.{exact_link}
use Rattle.claims.proofs.Boundary.{exact_xid, exact_boundary}
use Rattle.claims.proofs.Reasons.{explains, names, walks}
use Rattle.claims.proofs.Halves.{halves}

total : Total
total = record { reading = reading_refused; writing = writing_refused; call = call_refused; make = make_refused; run = run_refused }

exact_messages : (v : ℕ) → ExactMessages v
exact_messages v = record {
  tests = exact_tests v;
  accepted = exactly_when v;
  encoded = λ m t n b h. (accepted_valid v m t n b h).1;
  read_back = λ x rest ok. valid_read_back v x ok rest;
  values = exact_values v;
  numbers = exact_numbers v;
  parts = answered_parts v;
  places = exact_places v;
  written_read = reads_back v;
  read_written = read_rewritten v;
  writers = every_writer v;
}

pub claims : Claims
claims = record {
  demand1 = total;
  demand2 = (exact_messages, exact_link);
  demand3 = no_crossing;
  xid = exact_xid;
  boundary = exact_boundary;
  cases = fourteen_cases;
  explained = explains;
  named = names;
  walked = walks;
  halves = halves;
}
