mod ChangeLemmas
mod ScanLemmas
mod StepLemmas
