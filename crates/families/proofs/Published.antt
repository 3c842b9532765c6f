-- The 1983 words are a family.
use Rattle.families.specs.Families.{Family}
use Rattle.families.specs.Words.{word_of, first_number}
use Rattle.families.proofs.Rising.{word-rising}
use Rattle.families.proofs.Measured.{word_short}
use Rattle.families.proofs.Complete.{word_complete}

abbrev pub words1983 : Family
words1983 = record {
  word = word_of;
  rising = word-rising;
  first = first_number;
  complete = word_complete;
  short = word_short;
}
