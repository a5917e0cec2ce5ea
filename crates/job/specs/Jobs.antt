-- What a job means: the content of the file that it holds.
use Rattle.std.specs.Prelude.{ℕ, List, Ok, Err, vec_items, Result}
use Rattle.job.specs.declared.job.Job.{Job}
use Rattle.job.specs.Content.{Content, content}

-- the bytes of the job's file
abbrev pub file_of : Job → List ℕ
file_of job = vec_items job.file

abbrev pub content_of : Job → Content
content_of job = content (file_of job)

-- what a reading comes to, for all that anyone can see
abbrev pub outcome : {F : Type 0} → Result Job F → Result Content F
outcome (Ok job) = Ok (content_of job)
outcome (Err fault) = Err fault
