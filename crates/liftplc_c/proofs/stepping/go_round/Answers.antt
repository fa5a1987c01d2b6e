use Rattle.liftplc_c.proofs.stepping.go_round.Goals as goal

pub returns-clause-round : goal.returns-clause-round
returns-clause-round c =
    record {
      inside = c.requires.inside;
      notices = c.go.new.self.notices;
      round = c.go.ensures.round;
      same = c.go.ensures.same;
      cars = c.put.ensures.cars;
      slots = c.put.ensures.slots;
      noticed = c.put.ensures.notices;
    }
