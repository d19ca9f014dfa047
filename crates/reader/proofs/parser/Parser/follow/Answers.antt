use Rattle.reader.proofs.parser.Parser.follow.Goals as goal

pub returns-in-Turn : goal.returns-in-Turn
returns-in-Turn c = rw c.in-Turn.is (c.turn.ensures c.args.place)

pub returns-in-Bring : goal.returns-in-Bring
returns-in-Bring c = rw c.in-Bring.is (c.bring.ensures c.args.place)

pub returns-in-Shut : goal.returns-in-Shut
returns-in-Shut c = rw c.in-Shut.is (c.shut.ensures c.args.place)
