-- What is pushed on a ring of the packets that are sent on it, each with its fate.
use Rattle.std.specs.Prelude.{List, [], ◌∷◌, ◌++◌}
use Rattle.market_rings.specs.declared.fates.Fate.{Fate}
use Rattle.market_rings.specs.declared.fates.Fate.TheVariants.{Pass, Lose, Twice, Hold}

-- the fate that is used next: Pass, where none is left
abbrev pub next_fate : List Fate → Fate
next_fate [] = Pass
next_fate (fate ∷ fates) = fate

-- the fates that are left when one packet has met the next
abbrev pub fates_after_one : List Fate → List Fate
fates_after_one [] = []
fates_after_one (fate ∷ fates) = fates

module _ {T : Type 0} where
  -- how a packet is pushed at once
  abbrev pub pushed_at_once : Fate → T → List T
  pushed_at_once Pass x = x ∷ []
  pushed_at_once Lose x = []
  pushed_at_once Twice x = x ∷ x ∷ []
  pushed_at_once Hold x = []

  -- a packet that is held
  abbrev pub held_back : Fate → T → List T
  held_back Pass x = []
  held_back Lose x = []
  held_back Twice x = []
  held_back Hold x = x ∷ []

  -- packets in order meet the fates in order
  abbrev pub pushed_of : List T → List Fate → List T
  pushed_of [] fates = []
  pushed_of (x ∷ xs) fates = pushed_at_once (next_fate fates) x ++ pushed_of xs (fates_after_one fates)

  -- those that meet Hold
  abbrev pub held_after : List T → List Fate → List T
  held_after [] fates = []
  held_after (x ∷ xs) fates = held_back (next_fate fates) x ++ held_after xs (fates_after_one fates)

  -- the fates that are left
  abbrev pub fates_left : List T → List Fate → List Fate
  fates_left [] fates = fates
  fates_left (x ∷ xs) fates = fates_left xs (fates_after_one fates)

  -- what is pushed: the packets, each by its fate, and after them those that were held before
  abbrev pub pushed_by : List T → List Fate → List T → List T
  pushed_by packets fates held = pushed_of packets fates ++ held
