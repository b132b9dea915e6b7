use Rattle.std.proofs.Common.{rules, ◌≡◌}
use Rattle.oc_report.proofs.Booking.{inner_same, book_same, inner_count, inner_written, all_read}
use Rattle.oc_report.proofs.metered.report_booked.Goals as goal

pub returns-clause-written : goal.returns-clause-written
returns-clause-written g c =
    let same : c.report.new.out.inner.ghost_name ≡ c.new-sink.result.inner.ghost_name = inner_same _ _ _ _ _ _ _ _ _ _ _ _ _ _ c.report.ensures.written in
    let now : c.report.new.out.inner.now ≡ c.out-1.given.0 = search rules in
    rw (c.new-sink.ensures.inner, now) at (inner_written _ _ _ _ _ _ _ _ _ _ _ _ _ _ c.new-sink.ensures.failed c.report.ensures.written)

pub returns-clause-read : goal.returns-clause-read
returns-clause-read g c =
    let same : c.report.new.out.book.ghost_name ≡ c.new-sink.result.book.ghost_name = book_same _ _ _ _ _ _ _ _ _ _ _ _ _ _ c.report.ensures.written in
    let now : c.report.new.out.book.now ≡ c.book-1.given.0 = search rules in
    record { takes = λ apart. rw (c.new-sink.ensures.book, now) at (all_read _ _ _ _ _ _ _ _ _ _ _ _ _ _ c.new-sink.ensures.failed apart c.report.ensures.written) }

pub returns-clause-count : goal.returns-clause-count
returns-clause-count g c =
    let same : c.report.new.out.inner.ghost_name ≡ c.new-sink.result.inner.ghost_name = inner_same _ _ _ _ _ _ _ _ _ _ _ _ _ _ c.report.ensures.written in
    let now : c.report.new.out.inner.now ≡ c.out-1.given.0 = search rules in
    rw (c.new-sink.ensures.inner, now) at (inner_count _ _ _ _ _ _ _ _ _ _ _ _ _ _ c.report.ensures.written)
