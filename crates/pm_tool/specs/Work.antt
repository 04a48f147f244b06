-- Groups jobs by how they use their streams.
use Rattle.pm_batch.specs.declared.batch.Batch.TheVariants as batches
use Rattle.pm_tool.specs.declared.outcome.Job.{Job}
use Rattle.pm_tool.specs.declared.outcome.Job.TheVariants as jobs
use Rattle.pm_tool.specs.declared.programs.Start.TheVariants as starts
use Rattle.pm_tool.specs.declared.steps.Show.TheVariants.{Trace, Console}
use Rattle.pm_tool.specs.declared.talk.Talk.TheVariants as talks
use Rattle.pm_tool.specs.declared.work.Work.{Work}
use Rattle.pm_tool.specs.declared.work.Work.TheVariants as works
use Rattle.pm_batch.specs.Files.{opened_image}
use Rattle.pm_check.specs.Forms.{form_seen}

-- The work of a job: to start and use a machine, to disassemble a code file, or to convert bytes to bytes.
abbrev pub work_of : Job → Work
work_of (jobs.Raw limit selection) = works.Raw limit selection
work_of (jobs.Run disks name limit saving system) =
    works.Talk (starts.Booted disks name system) (talks.Run (Console saving) limit)
work_of (jobs.Trace disks name limit system selection) =
    works.Talk (starts.Booted disks name system) (talks.Run (Trace selection) limit)
work_of (jobs.Debug disks name system typed) = works.Talk (starts.Booted disks name system) (talks.Session typed)
work_of (jobs.Asm what) = works.Batch (batches.Asm what)
work_of (jobs.Dis what) = works.Dis what
work_of (jobs.Files image command) =
    works.Batch (batches.Files (opened_image image.items) (form_seen image.items) command)
work_of (jobs.New name blocks) = works.Batch (batches.New name blocks)
work_of (jobs.Repair image) = works.Batch (batches.Repair image)
work_of (jobs.Check image) = works.Batch (batches.Check image)
work_of (jobs.Salvage image second) = works.Batch (batches.Salvage image second)
