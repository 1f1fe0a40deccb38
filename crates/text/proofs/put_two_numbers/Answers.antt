use Rattle.text.proofs.Chain.{five}
use Rattle.text.proofs.Decimal.{two_whole}
use borrow.Author.Rules.{rules}
use Rattle.text.proofs.put_two_numbers.Goals as goal

pub returns-clause-put : goal.returns-clause-put
returns-clause-put c = search five

pub returns-clause-line : goal.returns-clause-line
returns-clause-line c =
    two_whole c.args.before.now c.args.between.now c.args.n c.args.m (search rules) (search rules) (search rules) (search five)
