mod ChosenAnew
mod ItemLemmas
mod OrderLemmas
mod ShownLemmas
mod TakenLemmas
mod TextLemmas
mod ToldLemmas
mod ValueLemmas
