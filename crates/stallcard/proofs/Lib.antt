mod Computed
mod Examples
