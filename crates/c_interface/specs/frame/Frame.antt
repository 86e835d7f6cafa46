-- The numbers of a pixel's verdict and of a frame's list. Assumes nothing.
use Rattle.std.specs.Prelude.{List, ◌∷◌, ℤ}
use Rattle.frame_centroid.specs.declared.Centroid.{Centroid}
use Rattle.frame_verdict.specs.declared.Kind.{Kind}
use Rattle.frame_verdict.specs.declared.Kind.TheVariants.{Dark, Beaten, Edge, Lone, Measured}
use Rattle.frame_verdict.specs.declared.Verdict.{Verdict}
use Rattle.frame_verdict.specs.Verdict.{kind_number}
use Rattle.frame_list.specs.declared.Report.{Report}
use Rattle.frame_list.specs.declared.Listing.{Listing}
use Rattle.frame_list.specs.Stars.{nought}
use Rattle.numbers.specs.TwosComplement.{signed_of}
use Rattle.c_numbers.specs.Numbers.{refused_numbers, accepted_numbers, outcome_numbers}
use Rattle.c_numbers.specs.Stars.{star_numbers, stars_numbers}
use Rattle.std.specs.Prelude.{Result, Ok, Err}
use Rattle.refusal.specs.declared.Refusal.{Refusal}

-- the position and brightness of a measured pixel, zeros for any other
abbrev pub centroid_in : Kind → Centroid
centroid_in Dark = nought
centroid_in Beaten = nought
centroid_in Edge = nought
centroid_in Lone = nought
centroid_in (Measured c) = c

abbrev pub judged_numbers : Verdict → List ℤ
judged_numbers v = accepted_numbers (signed_of v.row ∷ (signed_of v.column ∷ (signed_of (kind_number v.kind) ∷ star_numbers (centroid_in v.kind))))

abbrev pub verdict_numbers : Result Verdict Refusal → List ℤ
verdict_numbers (Err r) = refused_numbers r
verdict_numbers (Ok v) = judged_numbers v

-- how many stars are listed, how many pixels are measured, edge and lone, and the stars
abbrev pub report_numbers : Report → List ℤ
report_numbers r = signed_of r.count ∷ (signed_of r.measured ∷ (signed_of r.edge ∷ (signed_of r.lone ∷ stars_numbers r.stars)))

abbrev pub listing_numbers : Listing → List ℤ
listing_numbers l = outcome_numbers l.outcome (accepted_numbers (report_numbers l.report))
