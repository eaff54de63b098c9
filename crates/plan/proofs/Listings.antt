-- The listings, by computation.
use Rattle.std.proofs.Common.{refl}
use Rattle.std.specs.Fmt.{digits}
use Rattle.sections.specs.Fields.{number, field, section}
use Rattle.sections.specs.Sections.{sites_section}
use Rattle.decoder.specs.Decode.{decode}
use Rattle.planner.specs.Load.{load_by}
use Rattle.plan.specs.Text.{Listings, steps_text, said}

pub listings : Listings
unfolding digits steps_text said load_by decode sites_section section field number
listings = record { q = refl; unreached = refl; rejected = refl; nine_sites = refl }
