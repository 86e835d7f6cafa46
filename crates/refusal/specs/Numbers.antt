-- The numbers of document 01's table, and of the requests of document 02 behind it, by the names that the code has for them. Assumes nothing.
use Rattle.std.specs.Prelude.{List, [], ◌∷◌, ℕ}

abbrev pub size : ℕ
size = 1

abbrev pub samples : ℕ
samples = 2

abbrev pub threshold : ℕ
threshold = 3

abbrev pub sample : ℕ
sample = 4

abbrev pub settings : ℕ
settings = 5

abbrev pub catalogue : ℕ
catalogue = 6

abbrev pub record_rule : ℕ
record_rule = 7

abbrev pub directions : ℕ
directions = 8

abbrev pub demand : ℕ
demand = 9

abbrev pub room : ℕ
room = 10

abbrev pub ranking : ℕ
ranking = 11

abbrev pub few : ℕ
few = 12

abbrev pub no_fit : ℕ
no_fit = 13

abbrev pub close : ℕ
close = 14

abbrev pub pixel : ℕ
pixel = 15

abbrev pub index_room : ℕ
index_room = 16

abbrev pub index : ℕ
index = 17

abbrev pub records_room : ℕ
records_room = 18

abbrev pub lens : ℕ
lens = 19

abbrev pub changes_room : ℕ
changes_room = 20

abbrev pub nothing_kept : ℕ
nothing_kept = 21

abbrev pub guider : ℕ
guider = 22

abbrev pub entry : ℕ
entry = 23

-- all of them, in their order
abbrev pub in_order : List ℕ
in_order =
    size ∷ samples ∷ threshold ∷ sample ∷ settings ∷ catalogue ∷ record_rule ∷ directions ∷
    demand ∷ room ∷ ranking ∷ few ∷ no_fit ∷ close ∷ pixel ∷ index_room ∷
    index ∷ records_room ∷ lens ∷ changes_room ∷ nothing_kept ∷ guider ∷ entry ∷ []
