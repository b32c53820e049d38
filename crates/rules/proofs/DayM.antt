-- Day M of document 01, with the settings that its lettered cases change. Assumes nothing.
use Prim.Native.Nat.{ℕ, ◌+◌, ◌*◌}
use mathlib.Core.List.{List, [], ◌∷◌, ◌++◌}
use lib.ListN.{replicate}

-- a window's word of a kind
abbrev pub window_word : (kind opening closing : ℕ) → ℕ
window_word kind opening closing = kind * 268435456 + opening * 4096 + closing

-- "every leg between two places 10 minutes, distance 7"; from a place to itself nothing
abbrev pub leg_to : ℕ
leg_to = 2416574471

abbrev pub leg_back : ℕ
leg_back = 2415919104

-- the legs among four places
unfoldable pub legs_m : List ℕ
legs_m =
    (leg_back ∷ replicate 4 leg_to) ++ (leg_back ∷ replicate 4 leg_to) ++ (leg_back ∷ replicate 4 leg_to) ++ (leg_back ∷ [])

-- d = 1, n = 2, Q 100, Q* 200, S* 5, rest 10 minutes, tip 0..100 V 5, both stops 0..50 V 5
unfoldable pub day_m : (depotCloses restOpens restCloses quantityOne closesTwo : ℕ) → List ℕ
day_m depotCloses restOpens restCloses quantityOne closesTwo =
    0x10000102 ∷ 0x20000064 ∷ 0x300000C8 ∷ 0x40000005 ∷ window_word 5 0 depotCloses ∷ window_word 6 restOpens restCloses ∷ 0x7000000A
    ∷ 0x50000064 ∷ 0x70000005
    ∷ 0x50000032 ∷ 0x70000005 ∷ (0x80000000 + quantityOne)
    ∷ window_word 5 0 closesTwo ∷ 0x70000005 ∷ 0x80000032
    ∷ legs_m
