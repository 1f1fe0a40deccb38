-- Demand 2 of messages: the tests in their order, and what the calls hand back of an accepted message.
use Prim.Native.Nat.{ℕ}
use mathlib.Core.Path.{◌≡◌, refl, ap, ◌∙◌}
use mathlib.Core.List.{List}
use lib.ListN.{length}
use Rattle.message_layout.specs.Roles.{Xid}
use Rattle.message_layout.specs.Message.{message_in}
use Rattle.std.specs.Prelude.{Ok}
use Rattle.message_read.specs.Reading.{accepted, reading}
use Rattle.message_fields.specs.Fields.{value_number}
use Rattle.message_agree.specs.Contents.{content_in}
use Rattle.message_agree.proofs.Agree.{correlation_agrees, part-agrees, reply_agrees, number-agrees, xid_agrees_lem, count-agrees, element_part-agrees, element_reply_agrees, element_number-agrees, choice_agrees}
use Rattle.message_agree.proofs.Missing.{number_exact, xid_exact, count_exact, element_reply_exact, element_number_exact}
use Rattle.message_places.proofs.There.{correlation_there, part_there, element_there}
use Rattle.message_lent.specs.Requests.{Request}
use Rattle.message_lent.specs.Lending.{RequestTyped}
use Rattle.message_verdict.specs.Writing.{verdict, writing}
use Rattle.message_round_trip.proofs.RoundTrip.{written_read_lem}
use Rattle.message_fields.proofs.Parts as fields
use Rattle.message_lists.proofs.Parts as lists
use Rattle.claims.specs.Claims.{AnsweredParts, ExactTests, ExactValues, ExactNumbers, ExactPlaces, ReadsBack}

pub exact_tests : (v : ℕ) → ExactTests v
unfolding reading writing verdict
exact_tests v = record { of_reading = λ m. refl; of_writing = λ q room. refl }

module _ (v : ℕ) (m : List ℕ) (t n : ℕ) (h : reading v m ≡ Ok (accepted t n)) where
  pub exact_values : ExactValues v m (message_in m)
  exact_values = record {
    correlation = correlation_agrees v m t n h;
    part = part-agrees v m t n h;
    number = number-agrees v m t n h;
    xid = xid_agrees_lem v m t n h;
    count = count-agrees v m t n h;
    element = element_part-agrees v m t n h;
    element_number = element_number-agrees v m t n h;
    choice = choice_agrees v m t n h;
  }

  pub exact_numbers : ExactNumbers v m (message_in m)
  exact_numbers = record {
    part = reply_agrees v m t n h;
    of_number = λ r. ap value_number (number-agrees v m t n h r) ∙ number_exact (content_in r (message_in m));
    xid = λ k. ap value_number (xid_agrees_lem v m t n h k) ∙ xid_exact k (content_in Xid (message_in m));
    count = λ l. ap value_number (count-agrees v m t n h l) ∙ count_exact (content_in l (message_in m));
    element = λ l i r. element_reply_agrees v m t n h l i r ∙ element_reply_exact i r (content_in l (message_in m));
    element_number = λ l i r. ap value_number (element_number-agrees v m t n h l i r) ∙ element_number_exact i r (content_in l (message_in m));
  }

-- the calls for parts
pub answered_parts : (v : ℕ) (m : List ℕ) → AnsweredParts v m
answered_parts v m =
    record {
      correlation = (fields.correlation_is m (reading v m), fields.correlation_reply_is m (reading v m), fields.correlation_place_is m (reading v m));
      part = λ r. (fields.part_is r m (reading v m), fields.reply_is r m (reading v m), fields.place_is r m (reading v m));
      element = λ l i r. (lists.part_is l i r m (reading v m), lists.reply_is l i r m (reading v m), lists.place_is l i r m (reading v m));
    }

pub exact_places : (v : ℕ) (m : List ℕ) → ExactPlaces v m
exact_places v m = record {
  correlation = let p = correlation_there v m in record { there = p.there; inside = p.inside };
  part = λ r. let p = part_there v m r in record { there = p.there; inside = p.inside };
  element = λ l i r. let p = element_there v m l i r in record { there = p.there; inside = p.inside };
}

pub reads_back : (v : ℕ) (q : Request) (out : List ℕ) (n : ℕ) → RequestTyped q → writing v q (length out) ≡ Ok n → ReadsBack v q out n
reads_back v q out n t h = let r = written_read_lem v q out n t h in record { accepted = r.0; values = r.1; part = r.2; behind = r.3 }
