use Rattle.std.proofs.Common.{◌∙◌}
use Rattle.job.proofs.Readings.{dues_labels, job_sound}
use Rattle.questions.proofs.Values.{best_values, itself, late_values, peak_values, peaks_counted, spread_values}
use Rattle.questions.proofs.steps.step_costs.Goals as goal

pub returns : goal.returns
returns c =
    let sound = job_sound c.args.job.now in
    let s = c.args.list.now in
    let peaks = itself (rw c.over_open.ensures.rule at c.value_of.ensures.value) in
    let spreads = itself (rw c.over_open-2.ensures.rule at c.value_of-2.ensures.value) in
    let lates = itself (rw c.over_due.ensures.rule at c.value_of-3.ensures.value) in
    let bests = rw c.over_open-3.ensures.rule at c.value_of-4.ensures.value in
    let counts = itself (rw c.over_open_within.ensures.rule at c.value_of-5.ensures.value) in
    record {
      peak = peaks;
      spread = spreads;
      lateness = lates;
      best = bests;
      count = counts;
      sequence = λ is.
          record {
            peak = peaks ∙ peak_values _ sound s is;
            spread = spreads ∙ spread_values _ sound s is;
            lateness = lates ∙ late_values _ sound (dues_labels c.args.job.now) s is;
            best = bests ∙ best_values _ sound s is;
            count = counts ∙ peaks_counted _ sound c.args.places s is;
          };
    }
