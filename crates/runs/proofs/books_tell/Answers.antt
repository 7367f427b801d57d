-- Which books are true and which false.
use Rattle.runs.proofs.books_tell.Goals as goal
use Rattle.runs.proofs.Books.{opened_true, books_tell}

pub returns : goal.returns
returns c = record { opening = opened_true; books = books_tell }
