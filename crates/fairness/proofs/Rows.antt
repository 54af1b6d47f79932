-- The table holds by computation. Assumes nothing.
use Rattle.std.proofs.Common.{refl}
use Rattle.papers.specs.Encoding.{offer_head, offer_bytes, acceptance_head, acceptance_bytes, secret_bytes, off_head, off_bytes, finding_bytes, notice_head, notice_bytes, question_head, question_bytes, paper_bytes}
use Rattle.signing.specs.Checks.{vetted, sound, offer_signed, acceptance_signed, off_signed, notice_signed, question_signed}
use Rattle.contract.specs.Contract.{contract, cheated}
use Rattle.exchange.specs.Steps.{new_offer, new_acceptance, new_wish, new_question, ask, receive, step, checked, secret_checked}
use Rattle.notary.specs.Decision.{decide, new_notice}
use Rattle.fairness.specs.Rows.{RowsHold}

pub rows_hold : RowsHold
unfolding offer_head offer_bytes acceptance_head acceptance_bytes secret_bytes off_head off_bytes finding_bytes notice_head notice_bytes question_head question_bytes paper_bytes vetted sound offer_signed acceptance_signed off_signed notice_signed question_signed contract cheated new_offer new_acceptance new_wish new_question ask receive step checked secret_checked decide new_notice
rows_hold = refl
