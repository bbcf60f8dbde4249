use Rattle.clsm_workload.proofs.waiting.work_waiting.Given as goal

-- the load of the task
abbrev pub ghosts-work_by : goal.ghosts-work_by
ghosts-work_by g a = record { load = a.task.now.load }
