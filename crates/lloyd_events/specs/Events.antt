-- The zero event: each number is 0, and each float is +0.0. Definitions only.
use Rattle.ieee.specs.Sum.{plus_zero}
use Rattle.lloyd_events.specs.declared.LloydRepairEvent.{LloydRepairEvent}

abbrev pub zero_event : LloydRepairEvent
zero_event = record {
  restart = 0;
  iteration = 0;
  empty_cell = 0;
  donor_cell = 0;
  donor_count_before = 0;
  donor_distortion = plus_zero;
  residual_norm = plus_zero;
  split_epsilon = plus_zero;
}
