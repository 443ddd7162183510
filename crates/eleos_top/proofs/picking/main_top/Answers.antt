use Rattle.eleos_top.proofs.picking.main_top.Goals as goal

pub returns-then-starts_with-clause-run : goal.returns-then-starts_with-clause-run
returns-then-starts_with-clause-run g c = λ _. record { ends = record { text = c.run_top.ensures.puts; usage = c.run_top.ensures.usage; read_fault = c.run_top.ensures.read_fault; write_fault = c.run_top.ensures.write_fault; always_legal = c.run_top.ensures.always_legal }; ran = c.run_top.ensures.ran }

pub returns-then-starts_with-2-clause-replay : goal.returns-then-starts_with-2-clause-replay
returns-then-starts_with-2-clause-replay g c = λ _. record { text = c.replay_top.ensures.puts; usage = c.replay_top.ensures.usage; read_fault = c.replay_top.ensures.read_fault; write_fault = c.replay_top.ensures.write_fault; always_legal = c.replay_top.ensures.always_legal }

pub returns-then-starts_with-3-clause-gcm : goal.returns-then-starts_with-3-clause-gcm
returns-then-starts_with-3-clause-gcm g c = λ _. record { text = c.gcm_top.ensures.puts; usage = c.gcm_top.ensures.usage; read_fault = c.gcm_top.ensures.read_fault; write_fault = c.gcm_top.ensures.write_fault; always_legal = c.gcm_top.ensures.always_legal }
