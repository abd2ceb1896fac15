-- Frames in order, as they lie in a clean run: each begins no lower than the one that it has called, and its arguments
-- end no lower either.
use Rattle.std.specs.Prelude.{◌≡◌, ℕ, zero, suc, ◌<◌, ◌≤◌, List, [], ◌∷◌}
use Rattle.dcc_watch.specs.declared.frames.Live.{Live}
use Rattle.dcc_watch.specs.Shapes.{end_of}

-- the arguments of the first frame of the list, if there is one, end no lower than the offset
abbrev pub EndsFrom : ℕ → List Live → Type 0
EndsFrom end [] = Unit {0}
EndsFrom end (live ∷ older) = end ≤ end_of live

-- the frames are in order, the newest first, which begins no lower than the offset
abbrev pub AreOrdered : ℕ → List Live → Type 0
AreOrdered low [] = Unit {0}
AreOrdered low (live ∷ older) = (low ≤ live.base) × EndsFrom (end_of live) older × AreOrdered live.base older

-- the arguments of the `count` newest frames end at the offset or below, and those of the next one above it
abbrev pub AreBelow : List Live → ℕ → ℕ → Type 0
AreBelow [] offset count = count ≡ 0
AreBelow (live ∷ older) offset zero = offset < end_of live
AreBelow (live ∷ older) offset (suc count) = (end_of live ≤ offset) × AreBelow older offset count
