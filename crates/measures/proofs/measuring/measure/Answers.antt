use Rattle.std.proofs.Common.{arith}
use Rattle.job.proofs.Readings.{job_sound}
use Rattle.sequences.proofs.DoneSets.{sequence_length}
use Rattle.measures.proofs.measuring.measure.Goals as goal

pub invariant_of-sequence-clause-few : goal.invariant_of-sequence-clause-few
invariant_of-sequence-clause-few c =
    omega (arith, sequence_length c.sheets.result c.args.list.now (c.is_sequence.ensures.meaning.0 c.if-not-is_sequence.false), (job_sound c.args.job.now).few_sheets)
