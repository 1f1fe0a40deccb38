use Rattle.message_lists.proofs.elements.+from_element.Given as goal

abbrev pub decreases-from_element : goal.decreases-from_element
decreases-from_element l = l.n
