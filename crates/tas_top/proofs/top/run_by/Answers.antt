use Rattle.tas_top.proofs.top.run_by.Goals as goal

pub returns-clause-ok : goal.returns-clause-ok
returns-clause-ok g c = (c.requires.makes c.make.result c.make.ensures).run

pub returns-clause-refused : goal.returns-clause-refused
returns-clause-refused g c = (c.requires.makes c.make.result c.make.ensures).refused
