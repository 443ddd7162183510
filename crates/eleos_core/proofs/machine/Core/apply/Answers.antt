use Rattle.eleos_core.specs.Outcomes.{Outcome}
use Rattle.eleos_core.specs.Seals.{Seals, seals_by}
use Rattle.eleos_core.proofs.Effects.{outcome_given}
use Rattle.eleos_core.proofs.machine.Core.apply.Goals as goal

pub returns-in-Op : goal.returns-in-Op
returns-in-Op g c =
    let x : Seals = seals_by (g.S.Sealer.key c.args.sealer.now) in
    let outcome : Outcome x c.args.self.now c.args.who c.args.event.now c.args.blocks.now c.apply_call.result c.apply_call.new.self =
    rw c.in-Op.is (c.apply_call.ensures) in
    record { applied = outcome.applied; blocks = outcome.blocks; illegal = outcome.illegal; memory = outcome.memory; err = outcome.err }

pub returns-in-Link : goal.returns-in-Link
returns-in-Link g c =
    let x : Seals = seals_by (g.S.Sealer.key c.args.sealer.now) in
    let outcome : Outcome x c.args.self.now c.args.who c.args.event.now c.args.blocks.now c.apply_link.result c.apply_link.new.self =
    rw c.in-Link.is (outcome_given x c.args.self.now c.args.who _ c.args.blocks.now c.apply_link.result c.apply_link.new.self (rw c.in-Link.is at c.requires.blocks) (c.apply_link.ensures x)) in
    record { applied = outcome.applied; blocks = outcome.blocks; illegal = outcome.illegal; memory = outcome.memory; err = outcome.err }

pub returns-in-Unlink : goal.returns-in-Unlink
returns-in-Unlink g c =
    let x : Seals = seals_by (g.S.Sealer.key c.args.sealer.now) in
    let outcome : Outcome x c.args.self.now c.args.who c.args.event.now c.args.blocks.now c.apply_unlink.result c.apply_unlink.new.self =
    rw c.in-Unlink.is (outcome_given x c.args.self.now c.args.who _ c.args.blocks.now c.apply_unlink.result c.apply_unlink.new.self (rw c.in-Unlink.is at c.requires.blocks) (c.apply_unlink.ensures x)) in
    record { applied = outcome.applied; blocks = outcome.blocks; illegal = outcome.illegal; memory = outcome.memory; err = outcome.err }

pub returns-in-Fill : goal.returns-in-Fill
returns-in-Fill g c =
    let x : Seals = seals_by (g.S.Sealer.key c.args.sealer.now) in
    let outcome : Outcome x c.args.self.now c.args.who c.args.event.now c.args.blocks.now c.apply_fill.result c.apply_fill.new.self =
    rw c.in-Fill.is (c.apply_fill.ensures c.args.who (rw c.in-Fill.is at c.requires.within).0) in
    record { applied = outcome.applied; blocks = outcome.blocks; illegal = outcome.illegal; memory = outcome.memory; err = outcome.err }

pub returns-in-Evict : goal.returns-in-Evict
returns-in-Evict g c =
    let x : Seals = seals_by (g.S.Sealer.key c.args.sealer.now) in
    let outcome : Outcome x c.args.self.now c.args.who c.args.event.now c.args.blocks.now c.apply_evict.result c.apply_evict.new.self =
    rw c.in-Evict.is (outcome_given x c.args.self.now c.args.who _ c.args.blocks.now c.apply_evict.result c.apply_evict.new.self (rw c.in-Evict.is at c.requires.blocks) (c.apply_evict.ensures c.args.who (rw c.in-Evict.is at c.requires.within).0)) in
    record { applied = outcome.applied; blocks = outcome.blocks; illegal = outcome.illegal; memory = outcome.memory; err = outcome.err }

pub returns-in-Move : goal.returns-in-Move
returns-in-Move g c =
    let x : Seals = seals_by (g.S.Sealer.key c.args.sealer.now) in
    let outcome : Outcome x c.args.self.now c.args.who c.args.event.now c.args.blocks.now c.apply_move.result c.apply_move.new.self =
    rw c.in-Move.is (outcome_given x c.args.self.now c.args.who _ c.args.blocks.now c.apply_move.result c.apply_move.new.self (rw c.in-Move.is at c.requires.blocks) (c.apply_move.ensures x c.args.who (rw c.in-Move.is at c.requires.within).0)) in
    record { applied = outcome.applied; blocks = outcome.blocks; illegal = outcome.illegal; memory = outcome.memory; err = outcome.err }

pub returns-in-Starved : goal.returns-in-Starved
returns-in-Starved g c =
    let x : Seals = seals_by (g.S.Sealer.key c.args.sealer.now) in
    let outcome : Outcome x c.args.self.now c.args.who c.args.event.now c.args.blocks.now c.apply_starved.result c.args.self.now =
    rw c.in-Starved.is (outcome_given x c.args.self.now c.args.who _ c.args.blocks.now c.apply_starved.result c.args.self.now (rw c.in-Starved.is at c.requires.blocks) (rw (← c.as_slice.ensures) (c.apply_starved.ensures x))) in
    record { applied = outcome.applied; blocks = outcome.blocks; illegal = outcome.illegal; memory = outcome.memory; err = outcome.err }

pub returns-in-Spoiled : goal.returns-in-Spoiled
returns-in-Spoiled g c =
    let x : Seals = seals_by (g.S.Sealer.key c.args.sealer.now) in
    let outcome : Outcome x c.args.self.now c.args.who c.args.event.now c.args.blocks.now c.apply_spoiled.result c.args.self.now =
    rw c.in-Spoiled.is (c.apply_spoiled.ensures) in
    record { applied = outcome.applied; blocks = outcome.blocks; illegal = outcome.illegal; memory = outcome.memory; err = outcome.err }

pub returns-in-Survey : goal.returns-in-Survey
returns-in-Survey g c =
    let x : Seals = seals_by (g.S.Sealer.key c.args.sealer.now) in
    let outcome : Outcome x c.args.self.now c.args.who c.args.event.now c.args.blocks.now c.apply_survey.result c.args.self.now =
    rw c.in-Survey.is (outcome_given x c.args.self.now c.args.who _ c.args.blocks.now c.apply_survey.result c.args.self.now (rw c.in-Survey.is at c.requires.blocks) (rw (← c.as_slice-in-Survey.ensures) (c.apply_survey.ensures x c.args.who (rw c.in-Survey.is at c.requires.within).0))) in
    record { applied = outcome.applied; blocks = outcome.blocks; illegal = outcome.illegal; memory = outcome.memory; err = outcome.err }
