-- Exit statuses, and what stops a launch. Both are this program's own.
use Rattle.std.specs.Prelude.{ℕ, IsTrue, is_some}
use Rattle.jl_logic.specs.Counts.{raised}
use Rattle.jl_launch.specs.Text.{word_text, refusal_text}
use Rattle.jl_launch.specs.declared.launching.Stop.{Stop}
use Rattle.jl_launch.specs.declared.launching.Stop.TheVariants as stops
use Rattle.jl_launch.specs.declared.end.LaunchEnd.{LaunchEnd}
use Rattle.jl_launch.specs.declared.end.LaunchEnd.TheVariants.{Done, Words, Refused, ReadFault, SinkFault, NoMemory}

abbrev pub status_for : LaunchEnd → ℕ
status_for Done = 0
status_for (Words f) = 2
status_for (Refused r) = 3
status_for ReadFault = 6
status_for SinkFault = 7
status_for NoMemory = 9

-- what stops a launch before its end: a fault of the outside, or want of memory
abbrev pub IsStop : LaunchEnd → Type 0
IsStop Done = ⊥
IsStop (Words f) = ⊥
IsStop (Refused r) = ⊥
IsStop ReadFault = Unit {0}
IsStop SinkFault = Unit {0}
IsStop NoMemory = Unit {0}

-- a fault that is printed: it is neither want of memory nor a failed tree, and no fault inside it is
abbrev pub IsOwn : LaunchEnd → Type 0
IsOwn Done = Unit {0}
IsOwn (Words f) = IsTrue (is_some (word_text f))
IsOwn (Refused r) = IsTrue (is_some (refusal_text r))
IsOwn ReadFault = Unit {0}
IsOwn SinkFault = Unit {0}
IsOwn NoMemory = Unit {0}

-- how many faults the tree has where a launch ended so: one more where it failed, and no more else
abbrev pub tree_faults : LaunchEnd → ℕ → ℕ
tree_faults Done n = n
tree_faults (Words f) n = n
tree_faults (Refused r) n = n
tree_faults ReadFault n = raised n
tree_faults SinkFault n = n
tree_faults NoMemory n = n

-- how many faults the sink has where a launch ended so: one more where it failed, and no more else
abbrev pub sink_faults : LaunchEnd → ℕ → ℕ
sink_faults Done n = n
sink_faults (Words f) n = n
sink_faults (Refused r) n = n
sink_faults ReadFault n = n
sink_faults SinkFault n = raised n
sink_faults NoMemory n = n

-- the same of a tree where it was not decided what a command comes to
abbrev pub stop_faults : Stop → ℕ → ℕ
stop_faults stops.ReadFault n = raised n
stop_faults stops.NoMemory n = n
