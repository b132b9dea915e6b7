use Rattle.std.proofs.Common.{refl}
use Rattle.oc_top.proofs.Asking.{checking_comes, image_comes, listing_comes, regions_come, source_unfetched}
use Rattle.oc_command.proofs.Taking.{untouched}
use Rattle.oc_top.proofs.top.obey_source.Goals as goal

pub returns-in-Err-clause-comes : goal.returns-in-Err-clause-comes
returns-in-Err-clause-comes g c = source_unfetched _ _ refl _ c.in-Err.ensures.refused (untouched g.O.Sink.took g.O.Sink.held g.O.Sink.faults g.met.O.Sink.took_nothing _)

pub returns-in-Regions-clause-comes : goal.returns-in-Regions-clause-comes
returns-in-Regions-clause-comes g c =
    rw c.in-Regions.is (regions_come _ _ c.in-Ok.ensures.source c.in-Ok.ensures.asked _ refl (rw c.deref.ensures.value at c.print_regions.ensures.printed))

pub returns-in-Build-clause-comes : goal.returns-in-Build-clause-comes
returns-in-Build-clause-comes g c =
    rw c.in-Build.is (listing_comes _ _ c.in-Ok.ensures.source c.in-Ok.ensures.asked _ refl (rw c.deref-in-Build.ensures.value at c.print_listing.ensures.printed))

pub returns-in-Image-clause-comes : goal.returns-in-Image-clause-comes
returns-in-Image-clause-comes g c =
    rw c.in-Image.is (image_comes _ _ c.in-Ok.ensures.source c.in-Ok.ensures.asked _ refl (rw c.deref-in-Image.ensures.value at c.print_image.ensures.printed))

pub returns-clause-comes : goal.returns-clause-comes
returns-clause-comes g c =
    rw c.in-Check.is (checking_comes _ _ c.in-Ok.ensures.source c.in-Ok.ensures.asked _ refl (rw c.deref-in-Check.ensures.value at c.check_source.ensures.checked))
