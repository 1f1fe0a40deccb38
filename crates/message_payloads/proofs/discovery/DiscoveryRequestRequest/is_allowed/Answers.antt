use mathlib.Core.Path.{refl}
use Rattle.message_layout.specs.Table.{layout, entries_of, items_of}
use Rattle.message_lent.specs.Lent.{judged, column_allowed, columns_allowed, item_allowed, field_allowed, all_allowed}
use Rattle.message_lent.specs.Lists.{service_names, queue_names}
use Rattle.message_lent.specs.Requests.{discovery_request}
use Rattle.message_verdict.specs.Writing.{allowing}
use Rattle.message_payloads.proofs.discovery.DiscoveryRequestRequest.is_allowed.Goals as goal

pub returns : goal.returns
unfolding discovery_request layout entries_of items_of service_names queue_names allowing all_allowed field_allowed item_allowed columns_allowed column_allowed judged
returns c = refl
