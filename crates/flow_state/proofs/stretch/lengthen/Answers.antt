use Rattle.flow_state.proofs.stretch.lengthen.Goals as goal

pub returns-clause-entries : goal.returns-clause-entries
returns-clause-entries c memory is = c.go_on.ensures.added.entries memory

pub returns-clause-tick : goal.returns-clause-tick
returns-clause-tick c memory is = c.go_on.ensures.added.next memory

pub returns-clause-within : goal.returns-clause-within
returns-clause-within c n k all = c.go_on.ensures.added.within n k all
