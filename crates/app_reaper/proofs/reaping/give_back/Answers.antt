use Rattle.app_reaper.proofs.reaping.give_back.Goals as goal

pub give-requires-clause-slot : goal.give-requires-clause-slot
give-requires-clause-slot c = (c.requires.pins.has c.in-Some.at c.pin.result.now c.pin.ensures).1
