-- What a job file has to be, each condition on its own.
use Rattle.std.specs.Prelude.{◌≡◌, ℕ, ◌+◌, ◌*◌, ◌<◌, ◌≤◌, true, List, [], length, Some, None, Option, ◌≢◌, slice_index, slice_index_or}
use Rattle.std.specs.List.{AllByRecursion as Each}
use Rattle.sets.specs.Bits.{has, AllBelow}
use Rattle.job.specs.Content.{Content, content}
use Rattle.jobfile.specs.Edition.{header_bytes, row_bytes, record_bytes, most_sheets, most_orders, most_label_bytes}
use Rattle.jobfile.specs.Fields.{edition, sheets, orders, rows_at, records_at, stated_length, label_at, label_bytes}

-- so many bytes from an offset on lie between the header and the end
pub record Inside (file : List ℕ) (at size : ℕ) : Type 0 where
  pub past_header : header_bytes ≤ at
  pub before_end : at + size ≤ length file

-- where things lie in the file; parts may overlap or leave gaps
pub record Layout (file : List ℕ) : Type 0 where
  pub header : header_bytes ≤ length file
  pub first_edition : edition file ≡ 1
  pub whole : stated_length file ≡ length file
  pub rows_inside : Inside file (rows_at file) (row_bytes * sheets file)
  pub records_inside : Inside file (records_at file) (record_bytes * orders file)
  pub labels_inside : (order : ℕ) → order < orders file → Inside file (label_at file order) (label_bytes file order)

-- the sheet serves some order
pub record Busy (row : ℕ) : Type 0 where
  pub order : ℕ
  pub serves : has row order ≡ true

-- some sheet's row has the order
pub record Served (rows : List ℕ) (order : ℕ) : Type 0 where
  pub sheet : ℕ
  pub listed : sheet < length rows
  pub serves : has (slice_index rows sheet) order ≡ true

-- a due step is one of the job's steps, of which there are as many as sheets
abbrev pub Due : ℕ → Option ℕ → Type 0
Due steps None = Unit {0}
Due steps (Some step) = (1 ≤ step) × (step ≤ steps)

pub record Label (bytes : List ℕ) : Type 0 where
  pub some_byte : 1 ≤ length bytes
  pub few_bytes : length bytes ≤ most_label_bytes
  pub printed : Each (λ byte. (33 ≤ byte) × (byte ≤ 126)) bytes

-- what the content of a file has to satisfy
pub record Sound (c : Content) : Type 0 where
  pub some_sheet : 1 ≤ length c.rows
  pub few_sheets : length c.rows ≤ most_sheets
  pub some_order : 1 ≤ length c.labels
  pub few_orders : length c.labels ≤ most_orders
  pub busy : Each Busy c.rows
  pub known : Each (λ row. AllBelow row (length c.labels)) c.rows
  pub served : (order : ℕ) → order < length c.labels → Served c.rows order
  pub in_time : Each (Due (length c.rows)) c.dues
  pub labelled : Each Label c.labels
  pub distinct : (i j : ℕ) → i < j → j < length c.labels → slice_index_or c.labels i [] ≢ slice_index_or c.labels j []

pub record WellFormed (file : List ℕ) : Type 0 where
  pub layout : Layout file
  pub sound : Sound (content file)
