-- A word takes a character at least, and a turned word begins within the 96, so the measures fall.
use Rattle.std.proofs.Common.{◌+◌, ◌-◌, ◌*◌}
use Rattle.read.proofs.find.+find_turned_find_word.Given as goal

abbrev pub decreases-find_turned : goal.decreases-find_turned
decreases-find_turned l = 2 * (96 - l.used)

abbrev pub decreases-find_word : goal.decreases-find_word
decreases-find_word l = 2 * (96 - l.used) + 1
