-- Document 01, "Sums done by hand": its slot words, computed by the definitions.
use mathlib.Core.Path.{◌≡◌, refl}
use mathlib.Core.List.{[], ◌∷◌}
use Rattle.words.specs.Lists.{count_from}
use Rattle.node.specs.Lists.{remove, has}
use Rattle.node.specs.Slot.{bytes, word_of, names, slot, spot}

-- the seven entries in order, and with the third taken out; then the spot is that third
pub seven : slot (count_from 0 7) ≡ 0x0605040302010007
unfolding slot word_of
seven = refl

pub six : slot (remove 2 (count_from 0 7)) ≡ 0x0006050403010006
unfolding slot word_of
six = refl

pub six_spot : spot (names 0x0006050403010006) ≡ 2
unfolding names bytes spot has
six_spot = refl

-- of several unused entries it is the lowest
pub two_spot : spot (0 ∷ 1 ∷ []) ≡ 2
unfolding spot has
two_spot = refl

-- the lower four of a split, in order and with the new record first
pub four : slot (count_from 0 4) ≡ 0x0302010004
unfolding slot word_of
four = refl

pub four_new : slot (3 ∷ 0 ∷ 1 ∷ 2 ∷ []) ≡ 0x0201000304
unfolding slot word_of
four_new = refl

-- and back
pub seven_names : names 0x0605040302010007 ≡ count_from 0 7
unfolding names bytes
seven_names = refl

pub six_names : names 0x0006050403010006 ≡ remove 2 (count_from 0 7)
unfolding names bytes
six_names = refl

pub four_names : names 0x0302010004 ≡ count_from 0 4
unfolding names bytes
four_names = refl

pub four_new_names : names 0x0201000304 ≡ 3 ∷ 0 ∷ 1 ∷ 2 ∷ []
unfolding names bytes
four_new_names = refl
